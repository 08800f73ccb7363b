-- The order of keys is total, and ties only equal keys.
use Rattle.std.proofs.Common.{◌≡◌, ℕ, List, [], ◌∷◌, refl, sym, ◌∙◌}
use Rattle.std.specs.Prelude.{true, ◌==◌, if◌then◌else◌}
use Rattle.std.specs.Ordering.{eq_by_cmp}
use Rattle.std.specs.Cmp.{IsTotalOrder, then_total, on_total, nat_cmp_total, tied_itself, Equal-is}
use Rattle.std.specs.Cmp.Lexicographic.{nat_list_cmp_total}
use Rattle.std.specs.FinMap.{IsAntisymmetric, nat_cmp-IsAntisymmetric, slice_cmp-IsAntisymmetric}
use Rattle.rr_number.proofs.NumberOrders.{ties}
use Rattle.rr_object.specs.Classes.{class_number}
use Rattle.rr_object.specs.Keys.{class_of}
use Rattle.rr_object.specs.declared.key.Key.{Key}
use Rattle.rr_object.specs.declared.key.Key.TheVariants.{Mntner, AsBlock, AutNum, Inetnum, Route}
use Rattle.rr_object.specs.declared.key.Key.TheVariants.{AsSet, RouteSet}
use Rattle.rr_object.specs.KeyOrders.{key_cmp, words_of}

pub keys_total : IsTotalOrder key_cmp
keys_total = then_total (on_total (λ k. class_number (class_of k)) nat_cmp_total)
    (on_total words_of nat_list_cmp_total)

head : List ℕ → ℕ
head [] = 0
head (x ∷ xs) = x

tail : List ℕ → List ℕ
tail [] = []
tail (x ∷ xs) = xs

-- a key is given back by the number of its class and by its words
key_at : ℕ → List ℕ → Key
key_at n ws =
    if n == 1 then Mntner ws else (
    if n == 2 then AsBlock (record { first = head ws; last = head (tail ws) }) else (
    if n == 3 then AutNum (head ws) else (
    if n == 4 then Inetnum (record { first = head ws; last = head (tail ws) }) else (
    if n == 5 then Route (record { address = head ws; length = head (tail ws) })
    (head (tail (tail ws))) else (
    if n == 6 then AsSet ws else RouteSet ws)))))

key_back : (k : Key) → key_at (class_number (class_of k)) (words_of k) ≡ k
unfolding key_at head tail
key_back (Mntner n) = refl
key_back (AsBlock s) = refl
key_back (AutNum n) = refl
key_back (Inetnum s) = refl
key_back (Route p n) = refl
key_back (AsSet n) = refl
key_back (RouteSet n) = refl

-- only equal keys tie
pub keys_exact : IsAntisymmetric key_cmp
keys_exact a b e =
    let same_class = nat_cmp-IsAntisymmetric (class_number (class_of a))
    (class_number (class_of b)) ((ties _ _ e).0) in
    let same_words = slice_cmp-IsAntisymmetric nat_cmp-IsAntisymmetric (words_of a) (words_of b)
    ((ties _ _ e).1) in
    sym (key_back a) ∙ (λ i. key_at (same_class i) (same_words i)) ∙ key_back b

pub tied_key : (k : Key) → eq_by_cmp key_cmp k k ≡ true
tied_key k = (Equal-is (key_cmp k k)).1 (tied_itself keys_total k)

pub same_key : (a b : Key) → eq_by_cmp key_cmp a b ≡ true → a ≡ b
same_key a b e = keys_exact a b ((Equal-is (key_cmp a b)).0 e)
