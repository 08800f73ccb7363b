-- The keys under the names of sets, as the objects of a registry come and go.
use Rattle.std.proofs.Common.{◌≡◌, ◌||◌, ◌&&◌, ℕ, Bool, true, false, cond, not, List, IsTrue, refl}
use Rattle.std.proofs.Common.{sym, ap, ◌∙◌}
use Rattle.std.specs.Prelude.{None, Some}
use Rattle.std.specs.BTreeMap.{BTreeMap}
use Rattle.std.specs.BTreeSet.{BTreeSet}
use Rattle.std.specs.Cmp.{eq_by_cmp_equiv}
use Rattle.std.specs.FinMap.{empty, get, insert, remove, get-empty, get-insert, get-remove}
use Rattle.std.specs.FinMap.{same_map}
use Rattle.std.specs.Option.{option_map_or}
use Rattle.std.specs.Ordering.{eq_by_cmp}
use Rattle.rr_object.specs.declared.key.Key.{Key}
use Rattle.rr_object.specs.KeyOrders.{key_cmp}
use Rattle.rr_object.specs.Objects.{Obj}
use Rattle.rr_object.proofs.KeyLaws.{keys_exact, keys_total, same_key, tied_key}
use Rattle.rr_auth.specs.Registries.{Reg}
use Rattle.rr_book.specs.SetIndexes.{is_meant}
use Rattle.rr_book.specs.SetIndexes.{HasReferrers, stands_under}
use Rattle.rr_book.specs.SetLists.{names_set}

abbrev Sets : Type 0
Sets = BTreeMap (List ℕ) (BTreeSet Key)

-- what was put in anew and taken out again leaves a registry as it was
pub put_and_taken : (r : Reg) (k : Key) (o : Obj) → get r k ≡ None → remove (insert r k o) k ≡ r
put_and_taken r k o free = same_map keys_total keys_exact _ _ (λ q.
    get-remove keys_total (insert r k o) k q
    ∙ ap (cond (eq_by_cmp key_cmp q k) None) (get-insert keys_total r k o q)
    ∙ elim (eq_by_cmp key_cmp q k) as (λ b. eq_by_cmp key_cmp q k ≡ b →
    cond b None (cond b (Some o) (get r q)) ≡ get r q) [
      | true ↦ λ e. sym free ∙ ap (λ l. get r l) (sym (same_key q k e))
      | false ↦ λ e. refl
    ] refl)

-- to take out what is not there changes nothing
pub take_nothing : (r : Reg) (k : Key) → get r k ≡ None → remove r k ≡ r
take_nothing r k free = same_map keys_total keys_exact _ _ (λ q.
    get-remove keys_total r k q
    ∙ elim (eq_by_cmp key_cmp q k) as (λ b. eq_by_cmp key_cmp q k ≡ b → cond b None (get r q)
    ≡ get r q) [
      | true ↦ λ e. sym free ∙ ap (λ l. get r l) (sym (same_key q k e))
      | false ↦ λ e. refl
    ] refl)

pub put_there : (r : Reg) (k : Key) (o : Obj) → get (insert r k o) k ≡ Some o
put_there r k o = get-insert keys_total r k o k ∙ ap (λ b. cond b (Some o) (get r k)) (tied_key k)

pub referrers_none : (sets : Sets) → ((n : List ℕ) (k : Key) → stands_under sets n k ≡ false) →
    HasReferrers empty sets
referrers_none sets none n k = none n k ∙ sym (ap (λ v. option_map_or (names_set n) v false)
    (get-empty key_cmp k))

not_left : (a b : Bool) → (a && not b) ≡ true → b ≡ false
not_left true true e = cc
not_left true false e = refl
not_left false b e = cc

module _ (r : Reg) (old : Sets) (has : HasReferrers r old) where
  under : (n : List ℕ) (key k : Key) → eq_by_cmp key_cmp key k ≡ true → stands_under old n k
      ≡ option_map_or (names_set n) (get r key) false
  under n key k same = has n k ∙ ap (λ l. option_map_or (names_set n) (get r l) false)
      (sym (same_key key k same))

  -- the key of an object does not stand under the sets that it names and the one that stood there
  -- does not
  pub fresh : (o : Obj) (before : List ℕ → Bool) →
      ((n : List ℕ) → before n ≡ option_map_or (names_set n) (get r o.key) false)
      → (n : List ℕ) (k : Key) → IsTrue (is_meant o before n k) → stands_under old n k ≡ false
  fresh o before is n k meant =
      elim (eq_by_cmp key_cmp o.key k) as (λ e. eq_by_cmp key_cmp o.key k ≡ e →
      (e && (names_set n o && not (before n))) ≡ true → stands_under old n k ≡ false) [
        | true ↦ λ same m. under n o.key k same ∙ sym (is n) ∙ not_left (names_set n o) (before n) m
        | false ↦ λ other m. cc
      ] refl meant

  undone : (s w : Bool) → (w ≡ true → s ≡ false) → ((s || w) && not w) ≡ s
  undone s true h = elim s as (λ b. b ≡ false → ((b || true) && false) ≡ b) [
    | true ↦ λ e. sym e
    | false ↦ λ e. refl
  ] (h refl)
  undone true false h = refl
  undone false false h = refl

  -- an object could not be put, and its key was taken back
  pub taken_back : (o : Obj) (before now : List ℕ → Bool) (mid new : Sets) →
      ((n : List ℕ) → before n ≡ option_map_or (names_set n) (get r o.key) false)
      → ((n : List ℕ) → now n ≡ before n)
      → ((n : List ℕ) (k : Key) → stands_under mid n k
      ≡ (stands_under old n k || is_meant o before n k))
      → ((n : List ℕ) (k : Key) → stands_under new n k
      ≡ (stands_under mid n k && not (is_meant o now n k)))
      → HasReferrers r new
  taken_back o before now mid new is same add take n k =
      take n k
      ∙ (λ i. add n k i && not (eq_by_cmp key_cmp o.key k && (names_set n o && not (same n i))))
      ∙ undone (stands_under old n k) (is_meant o before n k) (fresh o before is n k) ∙ has n k

  changed_one : (was now : Bool) → ((was || (now && not was)) && not (was && not now)) ≡ now
  changed_one true true = refl
  changed_one true false = refl
  changed_one false true = refl
  changed_one false false = refl

  changed : (e s was now : Bool) → (e ≡ true → s ≡ was) →
      ((s || (e && (now && not was))) && not (e && (was && not now))) ≡ cond e now s
  changed true s was now h = ap (λ b. (b || (now && not was)) && not (was && not now)) (h refl)
      ∙ changed_one was now
  changed false true was now h = refl
  changed false false was now h = refl

  first : (e s now : Bool) → (e ≡ true → s ≡ false) → (s || (e && (now && true))) ≡ cond e now s
  first true s true h = ap (λ b. b || true) (h refl)
  first true s false h = ap (λ b. b || false) (h refl)
  first false true now h = refl
  first false false now h = refl

  gone : (e s was : Bool) → (e ≡ true → s ≡ was) → (s && not (e && (was && true))) ≡ cond e false s
  gone true s true h = ap (λ b. b && false) (h refl)
  gone true s false h = ap (λ b. b && true) (h refl)
  gone false true was h = refl
  gone false false was h = refl

  after_put : (o : Obj) (n : List ℕ) (k : Key) → cond (eq_by_cmp key_cmp o.key k) (names_set n o)
      (stands_under old n k) ≡ option_map_or (names_set n) (get (insert r o.key o) k) false
  after_put o n k =
      ap (cond (eq_by_cmp key_cmp o.key k) (names_set n o)) (has n k)
      ∙ elim (eq_by_cmp key_cmp o.key k) as
      (λ e. cond e (names_set n o) (option_map_or (names_set n) (get r k) false)
      ≡ option_map_or (names_set n) (cond e (Some o) (get r k)) false) [
        | true ↦ refl
        | false ↦
            refl
      ]
      ∙ ap (λ b. option_map_or (names_set n) (cond b (Some o) (get r k)) false)
      ((eq_by_cmp_equiv keys_total).symm o.key k)
      ∙ ap (λ x. option_map_or (names_set n) x false) (sym (get-insert keys_total r o.key o k))

  after_removal : (key : Key) (n : List ℕ) (k : Key) → cond (eq_by_cmp key_cmp key k) false
      (stands_under old n k) ≡ option_map_or (names_set n) (get (remove r key) k) false
  after_removal key n k =
      ap (cond (eq_by_cmp key_cmp key k) false) (has n k)
      ∙ elim (eq_by_cmp key_cmp key k) as
      (λ e. cond e false (option_map_or (names_set n) (get r k) false) ≡ option_map_or
      (names_set n) (cond e None (get r k)) false) [ true ↦ refl | false ↦ refl ]
      ∙ ap (λ b. option_map_or (names_set n) (cond b None (get r k)) false)
      ((eq_by_cmp_equiv keys_total).symm key k)
      ∙ ap (λ x. option_map_or (names_set n) x false) (sym (get-remove keys_total r key k))

  -- an object was put in place of another
  pub referrers_changed : (o x : Obj) (before now : List ℕ → Bool) (mid new : Sets) → get r o.key
      ≡ Some x → x.key ≡ o.key
      → ((n : List ℕ) → before n ≡ option_map_or (names_set n) (get r o.key) false)
      → ((n : List ℕ) → now n ≡ names_set n o)
      → ((n : List ℕ) (k : Key) → stands_under mid n k
      ≡ (stands_under old n k || is_meant o before n k))
      → ((n : List ℕ) (k : Key) → stands_under new n k
      ≡ (stands_under mid n k && not (is_meant x now n k)))
      → HasReferrers (insert r o.key o) new
  referrers_changed o x before now mid new stood own told_before told_now add take n k =
      let b : before n ≡ names_set n x = told_before n
      ∙ ap (λ y. option_map_or (names_set n) y false) stood in
      take n k
      ∙ ap (λ c. c && not (is_meant x now n k)) (add n k)
      ∙ (λ i. (stands_under old n k || (eq_by_cmp key_cmp o.key k && (names_set n o && not (b i))))
      && not (eq_by_cmp key_cmp (own i) k && (names_set n x && not (told_now n i))))
      ∙ changed (eq_by_cmp key_cmp o.key k) (stands_under old n k) (names_set n x) (names_set n o)
      (λ same. under n o.key k same ∙ ap (λ y. option_map_or (names_set n) y false) stood)
      ∙ after_put o n k

  -- an object was put where none stood
  pub referrers_first : (o : Obj) (before : List ℕ → Bool) (new : Sets) → get r o.key ≡ None →
      ((n : List ℕ) → before n ≡ false)
      → ((n : List ℕ) (k : Key) → stands_under new n k
      ≡ (stands_under old n k || is_meant o before n k))
      → HasReferrers (insert r o.key o) new
  referrers_first o before new free none add n k =
      add n k
      ∙ ap (λ c. stands_under old n k || (eq_by_cmp key_cmp o.key k && (names_set n o && not c)))
      (none n)
      ∙ first (eq_by_cmp key_cmp o.key k) (stands_under old n k) (names_set n o)
      (λ same. under n o.key k same ∙ ap (λ y. option_map_or (names_set n) y false) free)
      ∙ after_put o n k

  -- an object was taken out
  pub referrers_gone : (o : Obj) (new : Sets) → get r o.key ≡ Some o
      → ((n : List ℕ) (k : Key) → stands_under new n k
      ≡ (stands_under old n k && not (is_meant o (λ other. false) n k)))
      → HasReferrers (remove r o.key) new
  referrers_gone o new stood take n k =
      take n k
      ∙ gone (eq_by_cmp key_cmp o.key k) (stands_under old n k) (names_set n o)
      (λ same. under n o.key k same ∙ ap (λ y. option_map_or (names_set n) y false) stood)
      ∙ after_removal o.key n k
