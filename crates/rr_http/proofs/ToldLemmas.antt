-- Lemmas on connections that tell their bytes.
use Rattle.std.proofs.Common.{◌≡◌, ℕ, ◌<◌, ◌≤◌, List, ◌++◌, length, take, drop, arith, ap, sym, ◌∙◌}
use Rattle.std.proofs.Common.{subst, append_assoc}
use Rattle.std.proofs.lemmas.List.{append-nil, drop-append-le, length-take, take-append-le}
use Rattle.rr_http.specs.declared.body_reading.BodyEnd.TheVariants.{Whole, Short, Broken}
use Rattle.rr_http.specs.ToldBytes.{BodyFollowsItsHead, WantsByItsBytes}
use Rattle.rr_http.specs.Wants.{IsWanted}

pub wants_by_all : WantsByItsBytes
wants_by_all old between bytes prefix at_end wants told reads wanted =
    let given = reads.gives.consumed bytes told in
    subst (λ all. IsWanted all wants) (sym given.2)
    (wanted given.0 (λ over. (reads.spent over).none_left given.0 given.1))

-- what stands after the head: what came with it, what was read, and what is left
after_head : (bytes prefix more left rest : List ℕ) (place : ℕ) → place ≤ length prefix →
    bytes ≡ prefix ++ left → left ≡ more ++ rest →
    drop place bytes ≡ (drop place prefix ++ more) ++ rest
after_head bytes prefix more left rest place within all given =
    ap (drop place) all ∙ (drop-append-le place prefix left within
    ∙ (ap (λ xs. drop place prefix ++ xs) given ∙ sym (append_assoc (drop place prefix) more rest)))

head_of : (xs rest : List ℕ) (size : ℕ) → size ≤ length xs → take size xs ≡ take size (xs ++ rest)
head_of xs rest size within = sym (take-append-le size xs rest within)

long_enough : (xs : List ℕ) (size : ℕ) → length (take size xs) ≡ size → size ≤ length xs
long_enough xs size is = omega (arith, length-take size xs)

pub body_after : BodyFollowsItsHead
body_after old between new bytes prefix body place size Whole told gives within reads =
    let given = gives.consumed bytes told in
    let read = reads.1.consumed given.0 given.1 in
    let follows = after_head bytes prefix reads.0 given.0 read.0 place within given.2 read.2 in
    let whole : length (take size (drop place prefix ++ reads.0)) ≡ size =
    ap (λ (xs : List ℕ). length xs) (sym reads.2) ∙ reads.3 in (
      reads.2 ∙ (head_of _ read.0 size (long_enough _ size whole) ∙ ap (take size) (sym follows)),
      reads.3,
    )
body_after old between new bytes prefix body place size Short told gives within reads =
    let given = gives.consumed bytes told in
    let read = reads.1.consumed given.0 given.1 in
    let follows = after_head bytes prefix reads.0 given.0 read.0 place within given.2 read.2 in
    let none = reads.2.none_left read.0 read.1 in
    let all : drop place bytes ≡ body = follows ∙ (ap (λ xs. (drop place prefix ++ reads.0) ++ xs)
    none ∙ (append-nil (drop place prefix ++ reads.0) ∙ sym reads.3)) in
    (sym all, subst (λ (xs : List ℕ). length xs < size) (sym all) reads.4)
body_after old between new bytes prefix body place size Broken told gives within reads =
    let given = gives.consumed bytes told in
    let read = reads.1.gives.consumed given.0 given.1 in
    let follows = after_head bytes prefix reads.0 given.0 read.0 place within given.2 read.2 in
    (read.0, follows ∙ ap (λ xs. xs ++ read.0) (sym reads.2), reads.3)
