-- Lemmas on the faults of lines and blocks: for `inspect` and `read_canonical`.
use Rattle.std.proofs.Common.{◌≡◌, ℕ, ◌+◌, ◌<◌, ◌≤◌, Bool, true, false, List, [], ◌∷◌, length, take}
use Rattle.std.proofs.Common.{drop, Option, Some, None, is_some, refl, sym, ap, ◌∙◌, arith}
use Rattle.std.proofs.lemmas.Bool.Decides.{nat_tests}
use Rattle.std.specs.List.{position, position_or_len, list_any, before_first, after_first}
use Rattle.std.specs.Option.{option_or}
use Rattle.rr_text.specs.declared.text_fault.TextFault.{TextFault}
use Rattle.rr_text.specs.Lines.{text_lines}
use Rattle.rr_text.specs.Faults.{line_fault, later_fault, block_fault}

any_by : (p : ℕ → Bool) (t : Bool) (b : ℕ) (bs : List ℕ) → p b ≡ t →
    (position_or_len p bs < length bs → list_any p bs ≡ true) →
    (length bs ≤ position_or_len p bs → list_any p bs ≡ false)
    → (position_or_len p (b ∷ bs) < length (b ∷ bs) → list_any p (b ∷ bs) ≡ true)
    × (length (b ∷ bs) ≤ position_or_len p (b ∷ bs) → list_any p (b ∷ bs) ≡ false)
any_by p true b bs h hit miss = (rw h (λ lt. refl), rw h (λ le. absurd (omega arith)))
any_by p false b bs h hit miss = (rw h (λ lt. hit (omega arith)), rw h (λ le. miss (omega arith)))

any_at : (p : ℕ → Bool) (bs : List ℕ) → (position_or_len p bs < length bs → list_any p bs ≡ true)
    × (length bs ≤ position_or_len p bs → list_any p bs ≡ false)
any_at p [] = ((λ lt. absurd (omega arith)), (λ le. refl))
any_at p (b ∷ bs) = any_by p (p b) b bs refl (any_at p bs).0 (any_at p bs).1

-- a byte found by its place
pub record IsFound (p : ℕ → Bool) (bs : List ℕ) (place : ℕ) : Type 0 where
  pub some : list_any p bs ≡ true
  pub before : before_first p bs ≡ take place bs
  pub after : after_first p bs ≡ drop (place + 1) bs
  pub within : place < length bs

pub found_at : (p : ℕ → Bool) (bs : List ℕ) (place : ℕ) → Some place ≡ position p bs →
    IsFound p bs place
found_at p bs place e =
    let at : position_or_len p bs ≡ place = grind (arith, nat_tests) in
    let within : place < length bs = grind (arith, nat_tests) in
    record {
      some = (any_at p bs).0 (omega arith);
      before = ap (λ n. take n bs) at;
      after = ap (λ n. drop (n + 1) bs) at;
      within = within;
    }

pub not_found : (p : ℕ → Bool) (bs : List ℕ) → None ≡ position p bs → list_any p bs ≡ false
not_found p bs e =
    let past : length bs ≤ position_or_len p bs = grind (arith, nat_tests) in
    (any_at p bs).1 past

pub later_one : (line : List ℕ) (others : List (List ℕ)) (fault : TextFault) →
    line_fault false line ≡ Some fault → later_fault (line ∷ others) ≡ Some fault
unfolding later_fault
later_one line others fault h = rw h refl

pub later_more : (line : List ℕ) (others : List (List ℕ)) → line_fault false line ≡ None →
    later_fault (line ∷ others) ≡ later_fault others
unfolding later_fault
later_more line others h = rw h refl

pub later_none : (text : List ℕ) → length text ≡ 0 → later_fault (text_lines text) ≡ None
unfolding later_fault text_lines
later_none [] h = refl
later_none (b ∷ bs) h = absurd (omega arith)

pub block_none : (text : List ℕ) → length text ≡ 0 → block_fault (text_lines text) ≡ None
unfolding block_fault text_lines
block_none [] h = refl
block_none (b ∷ bs) h = absurd (omega arith)

pub block_more : (line : List ℕ) (others : List (List ℕ)) → block_fault (line ∷ others) ≡ option_or
    (line_fault true line) (later_fault others)
unfolding block_fault
block_more line others = refl

pub no_fault : (fault : Option TextFault) → is_some fault ≡ false → fault ≡ None
no_fault None h = refl
no_fault (Some fault) h = cc

pub later_found : (fault : Option TextFault) (text line : List ℕ) (others : List (List ℕ)) →
    fault ≡ line_fault false line → is_some fault ≡ true → text_lines text ≡ line ∷ others
    → fault ≡ later_fault (text_lines text)
later_found None text line others e h lines = cc
later_found (Some fault) text line others e h lines =
    sym (ap later_fault lines ∙ later_one line others fault (sym e))
