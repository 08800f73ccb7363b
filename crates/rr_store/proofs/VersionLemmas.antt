-- Numbers in decimal digits are texts, and are read back.
use Rattle.std.proofs.Common.{◌≡◌, ℕ, ◌<◌, ◌^◌, List, Ok, Result, sym, subst, arith}
use Rattle.std.specs.Prelude.{decimal}
use Rattle.std.specs.Str.{IsUtf8}
use Rattle.std.specs.Str.Parse.{ParsesUnsigned}
use Rattle.std.proofs.lemmas.Fmt.{IsAscii-decimal, parse-decimal}
use Rattle.std.proofs.lemmas.Str.{IsUtf8-from_ascii}

pub decimal_is_text : (n : ℕ) (bytes : List ℕ) → bytes ≡ decimal n → n < 2 ^ 32 → IsUtf8 bytes
decimal_is_text n bytes is low = subst IsUtf8 (sym is)
    (IsUtf8-from_ascii (decimal n) (IsAscii-decimal n (omega arith)))

pub decimal_is_read : {E : Type 0} (n : ℕ) (bytes : List ℕ) (r : Result ℕ E) → ParsesUnsigned 32 10
    bytes r → bytes ≡ decimal n → n < 2 ^ 32 → r ≡ Ok n
decimal_is_read n bytes r parses is low = parse-decimal 32 n bytes r low (omega arith) is parses
