-- Registries that agree on what is held, and what an item about other things leaves of it.
use Rattle.std.proofs.Common.{◌≡◌, true, false, cond, refl, sym, ap, ◌∙◌}
use Rattle.std.specs.Prelude.{None, Some, is_some}
use Rattle.std.specs.Ordering.{eq_by_cmp}
use Rattle.std.specs.FinMap.{get, insert, remove, get-insert, get-remove}
use Rattle.std.proofs.lemmas.Bool.{false_from_ne_true, true≢false}
use Rattle.rr_object.specs.declared.key.Key.{Key}
use Rattle.rr_object.specs.declared.key.Key.TheVariants.{Mntner, AutNum, Inetnum, Route}
use Rattle.rr_object.specs.KeyOrders.{key_cmp}
use Rattle.rr_object.specs.Objects.{Obj}
use Rattle.rr_auth.specs.declared.item.Item.{Item}
use Rattle.rr_auth.specs.declared.item.Item.TheVariants.{Submit, Delete as DeleteItem}
use Rattle.rr_auth.specs.declared.verdict.Verdict.{Verdict}
use Rattle.rr_auth.specs.declared.verdict.Verdict.TheVariants.{Add, Change, Unchanged, Delete}
use Rattle.rr_auth.specs.declared.verdict.Verdict.TheVariants.{Refuse}
use Rattle.rr_auth.specs.Laws.{key_about}
use Rattle.rr_auth.specs.Registries.{Reg}
use Rattle.rr_auth.specs.Verdicts.{after}
use Rattle.rr_object.proofs.KeyLaws.{keys_total, same_key}
use Rattle.rr_auth.proofs.Nesting.{covers_itself}
use Rattle.rr_registry.specs.Holdings.{Agree, Holding, IsHeld, is_held, space_of}

-- a key that is held is another than one that is not
pub other_key : (h : Holding) (k l : Key) → is_held h k ≡ false → is_held h l ≡ true →
    eq_by_cmp key_cmp l k ≡ false
other_key h k l e f = false_from_ne_true _
    (λ t. true≢false (sym f ∙ ap (is_held h) (same_key l k t) ∙ e))

pub covers_whole : (h : Holding) → is_held h (Inetnum (space_of h)) ≡ true
covers_whole h = covers_itself (space_of h)

-- where registries agree on what is held, the prefix is held in both or in neither
pub held_alike : (h : Holding) (r q : Reg) → IsHeld h r → Agree h r q → IsHeld h q
held_alike h r q held agree = record {
  registered = λ name e. ap is_some (sym (agree (Mntner name) e)) ∙ held.registered name e;
  space = ap is_some (sym (agree (Inetnum (space_of h)) (covers_whole h))) ∙ held.space;
  origin = held.origin;
  routed = ap is_some (sym (agree (Route h.prefix held.origin) (covers_whole h))) ∙ held.routed;
  numbered = λ n e. ap is_some (sym (agree (AutNum n) e)) ∙ held.numbered n e;
  theirs = λ k o e f. held.theirs k o e (agree k e ∙ f);
}

pub agree_back : (h : Holding) (r q : Reg) → Agree h r q → Agree h q r
agree_back h r q agree k e = sym (agree k e)

pub agree_on : (h : Holding) (r q t : Reg) → Agree h r q → Agree h q t → Agree h r t
agree_on h r q t first second k e = first k e ∙ second k e

-- an object under a key that is not held, and one taken away from there, leave what is held
aside_insert : (h : Holding) (r : Reg) (k : Key) (o : Obj) → is_held h k ≡ false →
    Agree h r (insert r k o)
aside_insert h r k o e l f =
    sym (get-insert keys_total r k o l ∙ ap (λ b. cond b (Some o) (get r l)) (other_key h k l e f))

aside_remove : (h : Holding) (r : Reg) (k : Key) → is_held h k ≡ false → Agree h r (remove r k)
aside_remove h r k e l f = sym (get-remove keys_total r k l ∙ ap (λ b. cond b None (get r l))
    (other_key h k l e f))

-- whatever is decided about a key that is not held, what is held is left
pub aside : (h : Holding) (r : Reg) (v : Verdict) (i : Item) → is_held h (key_about i) ≡ false →
    Agree h r (after v r i)
aside h r Add (Submit o) e = aside_insert h r o.key o e
aside h r Change (Submit o) e = aside_insert h r o.key o e
aside h r Unchanged (Submit o) e = λ k f. refl
aside h r Delete (Submit o) e = λ k f. refl
aside h r (Refuse code) (Submit o) e = λ k f. refl
aside h r Add (DeleteItem k) e = λ k f. refl
aside h r Change (DeleteItem k) e = λ k f. refl
aside h r Unchanged (DeleteItem k) e = λ k f. refl
aside h r Delete (DeleteItem k) e = aside_remove h r k e
aside h r (Refuse code) (DeleteItem k) e = λ k f. refl

insert_alike : (h : Holding) (r q : Reg) (k : Key) (o : Obj) → Agree h r q → Agree h (insert r k o)
    (insert q k o)
insert_alike h r q k o agree l e =
    get-insert keys_total r k o l ∙ ap (λ v. cond (eq_by_cmp key_cmp l k) (Some o) v) (agree l e)
    ∙ sym (get-insert keys_total q k o l)

remove_alike : (h : Holding) (r q : Reg) (k : Key) → Agree h r q → Agree h (remove r k) (remove q k)
remove_alike h r q k agree l e =
    get-remove keys_total r k l ∙ ap (λ v. cond (eq_by_cmp key_cmp l k) None v) (agree l e)
    ∙ sym (get-remove keys_total q k l)

-- one decision leaves registries agreeing that agreed
pub after_alike : (h : Holding) (r q : Reg) (v : Verdict) (i : Item) → Agree h r q →
    Agree h (after v r i) (after v q i)
after_alike h r q Add (Submit o) agree = insert_alike h r q o.key o agree
after_alike h r q Change (Submit o) agree = insert_alike h r q o.key o agree
after_alike h r q Unchanged (Submit o) agree = agree
after_alike h r q Delete (Submit o) agree = agree
after_alike h r q (Refuse code) (Submit o) agree = agree
after_alike h r q Add (DeleteItem k) agree = agree
after_alike h r q Change (DeleteItem k) agree = agree
after_alike h r q Unchanged (DeleteItem k) agree = agree
after_alike h r q Delete (DeleteItem k) agree = remove_alike h r q k agree
after_alike h r q (Refuse code) (DeleteItem k) agree = agree
