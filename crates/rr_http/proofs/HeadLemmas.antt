-- Lemmas on the head of a connection.
use Rattle.std.proofs.Common.{eq-eqb, ◌⊎◌, inl, inr, ◌≡◌, ℕ, ◌+◌, ◌<◌, ◌≤◌, true, false, ◌&&◌, List}
use Rattle.std.proofs.Common.{[], ◌∷◌, ◌++◌, length, Option, None, Some, arith, refl, ap, sym, ◌∙◌}
use Rattle.std.proofs.Common.{take, length-take-le, append_assoc}
use Rattle.std.proofs.Math.Seq.{take-append-add, take-take}
use Rattle.std.proofs.lemmas.Slice.{take-put_mid}
use borrow.Rule.Slice.PartMut.{put_mid}
use Rattle.std.specs.Prelude.{nat_lt}
use Rattle.std.proofs.lemmas.Bool.{and_left, and_right, and_from, le-ltb, lt-ltb, ne_eqb}
use Rattle.std.specs.Option.{option_map}
use Rattle.rr_bytes.specs.Blanks.{is_line_feed}
use Rattle.rr_http.specs.Heads.{head_length, line_end}

after : (place : ℕ) (found : Option ℕ) → option_map (λ n. place + n)
    (option_map (λ n. 1 + n) found) ≡ option_map (λ n. (place + 1) + n) found
after place None = refl
after place (Some n) = ap Some (let e : place + (1 + n) ≡ (place + 1) + n = omega arith in e)

head_here : (place b : ℕ) (bs : List ℕ) → (is_line_feed b && nat_lt 0 (line_end bs)) ≡ true →
    option_map (λ n. place + n) (head_length (b ∷ bs)) ≡ Some ((place + 1) + line_end bs)
unfolding head_length
head_here place b bs h =
    rw h (ap Some (let e : place + (1 + line_end bs) ≡ (place + 1) + line_end bs = omega arith in
    e))

head_on : (place b : ℕ) (bs : List ℕ) → (is_line_feed b && nat_lt 0 (line_end bs)) ≡ false →
    option_map (λ n. place + n) (head_length (b ∷ bs)) ≡ option_map (λ n. (place + 1) + n)
    (head_length bs)
unfolding head_length
head_on place b bs h = rw h (after place (head_length bs))

-- the head of a text ends with the line end after an LF
pub head_found : (text rest bs : List ℕ) (place b end : ℕ) → head_length text ≡ option_map
    (λ n. place + n) (head_length rest) → rest ≡ b ∷ bs →
    b ≡ 10 → end ≡ line_end bs → 0 < end → Some ((place + 1) + end) ≡ head_length text
head_found text rest bs place b end so_far cut feed here some =
    let tests : (is_line_feed b && nat_lt 0 (line_end bs)) ≡ true = and_from _ _ (eq-eqb b 10 feed)
    (lt-ltb 0 (line_end bs) (omega arith)) in
    ap (λ n. Some ((place + 1) + n)) here
    ∙ sym (so_far ∙ ap (λ xs. option_map (λ n. place + n) (head_length xs)) cut ∙ head_here
    place b bs tests)

-- and otherwise after its first byte
pub head_passed : (text rest bs : List ℕ) (place b end : ℕ) → head_length text ≡ option_map
    (λ n. place + n) (head_length rest) → rest ≡ b ∷ bs →
    end ≡ line_end bs → ((b ≡ 10) × (end ≤ 0)) ⊎ (b ≡ 10 → ⊥) → head_length text ≡ option_map
    (λ n. (place + 1) + n) (head_length bs)
head_passed text rest bs place b end so_far cut here (inl none) =
    let tests : (is_line_feed b && nat_lt 0 (line_end bs)) ≡ false =
    and_right _ _ (le-ltb 0 (line_end bs) (let at_none = none.1 in omega arith)) in
    so_far ∙ ap (λ xs. option_map (λ n. place + n) (head_length xs)) cut ∙ head_on place b bs tests
head_passed text rest bs place b end so_far cut here (inr other) =
    let tests : (is_line_feed b && nat_lt 0 (line_end bs)) ≡ false =
    and_left _ _ (ne_eqb b 10 other) in
    so_far ∙ ap (λ xs. option_map (λ n. place + n) (head_length xs)) cut ∙ head_on place b bs tests

-- a text of no bytes has no head
pub head_none : (text rest : List ℕ) (place : ℕ) → head_length text ≡ option_map (λ n. place + n)
    (head_length rest) → length rest ≡ 0 → None ≡ head_length text
unfolding head_length
head_none text [] place so_far none = sym so_far
head_none text (b ∷ bs) place so_far none = absurd (omega arith)

-- what was written to the part of a list after its first `a` is what follows them
pub put_after : (a n k : ℕ) (xs ys : List ℕ) → a ≤ length xs → n ≤ length ys →
    take (a + n) (put_mid a k xs ys) ≡ take a xs ++ take n ys
put_after a n k xs ys h m =
    let whole : take (a + n) (put_mid a k xs ys) ≡ take (a + n)
    (take (a + length ys) (put_mid a k xs ys)) =
    sym (take-take (a + n) (a + length ys) _ (omega arith)) in
    let cut : take (length (take a xs) + n) (take a xs ++ ys) ≡ take a xs ++ take n ys =
    take-append-add (take a xs) ys n in
    let long : length (take a xs) ≡ a = length-take-le a xs h in
    whole ∙ ap (take (a + n)) (take-put_mid a k xs ys (a + length ys) refl h) ∙ (rw long at cut)

-- and so it follows what was written before
pub put_more : (a n k : ℕ) (xs ys first more : List ℕ) → take a xs ≡ first ++ more →
    a ≤ length xs → n ≤ length ys →
    take (a + n) (put_mid a k xs ys) ≡ first ++ (more ++ take n ys)
put_more a n k xs ys first more e h m = put_after a n k xs ys h m
    ∙ (ap (λ zs. zs ++ take n ys) e ∙ append_assoc first more (take n ys))
