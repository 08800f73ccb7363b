-- Lemmas on the turns of a listener.
use Rattle.std.proofs.Common.{◌≡◌, ℕ, ◌+◌, ◌-◌, ◌≤◌, Bool, true, false, not, List, [], ◌∷◌, ◌++◌}
use Rattle.std.proofs.Common.{map, count_by, Option, None, Some, arith, refl, ap, sym, ◌∙◌, subst}
use Rattle.std.proofs.Common.{length-append, append_assoc, zero-add, if◌then◌else◌}
use Rattle.std.specs.Option.{option_map}
use Rattle.std.proofs.lemmas.List.{append-nil}
use Rattle.std.proofs.lemmas.List.Sums.{sum_by-append}
use Rattle.sqlite_trees.specs.declared.store.Store.{Ghosts}
use Rattle.rr_desk.specs.declared.desk.Desk.{Desk}
use Rattle.std.specs.Prelude.{is_ok}
use Rattle.rr_io.specs.declared.streams.Reader as readers
use Rattle.rr_io.specs.declared.streams.Writer as writers
use Rattle.rr_desk.specs.Desks.{desk_state}
use Rattle.rr_desk.specs.Lasting.{database_still}
use Rattle.rr_desk.specs.TurnParts.{TakesTurn}
use Rattle.rr_desk.specs.Turns.{ConnEnd, Does, DoesAll, InOrder, IsAccepted, ClosesConnection}
use Rattle.rr_desk.specs.Turns.{IsNextTurn}
use Rattle.rr_desk.specs.Turns.{IsUnaccepted, Serving, StaysServed, TakesTurns, Tally, Turn, Visit}
use Rattle.rr_desk.specs.Turns.{closed, conn_visit, given_in, is_served, turn_of, with_turn}

mapped_more : (visits : List (Option Visit)) (visit : Option Visit) →
    map turn_of (visits ++ visit ∷ []) ≡ map turn_of visits ++ turn_of visit ∷ []
mapped_more [] visit = refl
mapped_more (v ∷ visits) visit = ap (λ turns. turn_of v ∷ turns) (mapped_more visits visit)

told_more : (told : Option (List Turn)) (visits : List (Option Visit)) (visit : Option Visit) →
    with_turn (option_map (λ turns. turns ++ map turn_of visits) told) (turn_of visit) ≡ option_map
    (λ turns. turns ++ map turn_of (visits ++ visit ∷ [])) told
told_more None visits visit = refl
told_more (Some turns) visits visit =
    ap Some (append_assoc turns (map turn_of visits) (turn_of visit ∷ [])
    ∙ ap (λ more. turns ++ more) (sym (mapped_more visits visit)))

counted_more : (p : Option Visit → Bool) (visits : List (Option Visit)) (visit : Option Visit) →
    count_by p (visits ++ visit ∷ []) ≡ count_by p visits + (if p visit then 1 else 0)
counted_more p visits visit = sum_by-append (λ v. if p v then 1 else 0) visits (visit ∷ [])
    ∙ ap (λ n. count_by p visits + n) (zero-add (if p visit then 1 else 0))

all_more : {S : Type 0} (g : Ghosts S) (serves : Serving) (visits : List (Option Visit))
    (visit : Option Visit) (first before after : Desk S) →
    DoesAll S g serves visits first before → Does S g serves visit before after →
    DoesAll S g serves (visits ++ visit ∷ []) first after
all_more {S} g serves [] visit first before after none does =
    (after, subst (λ desk. Does S g serves visit desk after) none does, refl)
all_more {S} g serves (v ∷ visits) visit first before after all does =
    (all.0, all.1, all_more g serves visits visit all.0 before after all.2 does)

-- the connections to come are accepted in their order by one turn more
order_more : (visits : List (Option Visit)) (visit : Option Visit)
    (first before after : Option (List (List ℕ))) →
    InOrder visits first before → IsNextTurn (given_in visit) before after →
    InOrder (visits ++ visit ∷ []) first after
order_more [] visit first before after none next =
    (after, subst (λ waiting. IsNextTurn (given_in visit) waiting after) none next, refl)
order_more (v ∷ visits) visit first before after all next =
    (all.0, all.1, order_more visits visit all.0 before after all.2 next)

module _ {S : Type 0} (g : Ghosts S) (serves : Serving) (first before after : Desk S)
    (tally_first tally_before tally_after : Tally) where
  -- one more turn was taken
  turn_more : (count served failed : ℕ) (well : Bool) →
      TakesTurns g serves count first before tally_first tally_before served failed →
      TakesTurn g serves before after tally_before tally_after well →
      TakesTurns g serves (count + 1) first after tally_first tally_after
      (served + (if well then 1 else 0)) (failed + (if not well then 1 else 0))
  turn_more count served failed well turns turn = record {
    visits = turns.visits ++ turn.visit ∷ [];
    many = length-append turns.visits (turn.visit ∷ []) ∙ ap (λ n. n + 1) turns.many;
    all = all_more g serves turns.visits turn.visit first before after turns.all turn.does;
    in_order = order_more turns.visits turn.visit tally_first.waiting tally_before.waiting
        tally_after.waiting turns.in_order turn.is_next;
    counted = (let a = turns.counted in let b = turn.taken.counted in omega arith);
    told = turn.taken.told ∙ (ap (λ told. with_turn told (turn_of turn.visit)) turns.told
        ∙ told_more tally_first.told turns.visits turn.visit);
    are_served = ap (λ n. n + (if well then 1 else 0)) turns.are_served
        ∙ (ap (λ b. count_by is_served turns.visits + (if b then 1 else 0)) turn.served_well
        ∙ sym (counted_more is_served turns.visits turn.visit));
    are_failed = ap (λ n. n + (if not well then 1 else 0)) turns.are_failed
        ∙
        (ap (λ b. count_by (λ visit. not (is_served visit)) turns.visits +
        (if not b then 1 else 0)) turn.served_well
        ∙ sym (counted_more (λ visit. not (is_served visit)) turns.visits turn.visit));
  }

  left_over : (turn served : ℕ) (well : Bool) → served ≤ turn →
      (turn - served) + (if not well then 1 else 0) ≡ turn + 1 - (served + (if well then 1 else 0))
  left_over turn served true within = omega arith
  left_over turn served false within = omega arith

  -- and counted as one that was served, or not
  pub turn_counted : (turn served more : ℕ) (well : Bool) →
      TakesTurns g serves turn first before tally_first tally_before served (turn - served) →
      TakesTurn g serves before after tally_before tally_after well →
      served ≤ turn → more ≡ served + (if well then 1 else 0) →
      TakesTurns g serves (turn + 1) first after tally_first tally_after more (turn + 1 - more)
  turn_counted turn served more well turns took within is =
      subst (λ n. TakesTurns g serves (turn + 1) first after tally_first tally_after n
      (turn + 1 - n)) (sym is)
      (subst (λ n. TakesTurns g serves (turn + 1) first after tally_first tally_after
      (served + (if well then 1 else 0)) n) (left_over turn served well within)
      (turn_more turn served (turn - served) well turns took))

-- no turn was taken
pub no_turn : {S : Type 0} (g : Ghosts S) (serves : Serving) (desk : Desk S) (tally : Tally) →
    TakesTurns g serves 0 desk desk tally tally 0 0
no_turn g serves desk tally = record {
  visits = [];
  many = refl;
  all = refl;
  in_order = refl;
  counted = omega arith;
  told = none_more tally.told;
  are_served = refl;
  are_failed = refl;
}
  where
    none_more : (told : Option (List Turn)) → told ≡ option_map (λ turns. turns ++ []) told
    none_more None = refl
    none_more (Some turns) = ap Some (sym (append-nil turns))

-- a connection was accepted, served and closed, which is a turn
pub served_turn : {S C : Type 0} (g : Ghosts S) (serves : Serving) (reader : readers.Ghosts C)
    (writer : writers.Ghosts C) (before after : Desk S) (first between last : Tally)
    (given : Option (List ℕ)) (old new : C) (ended : ConnEnd) (well : Bool) → well ≡ is_ok ended →
    IsAccepted first between given (reader.told old) (writer.told old) →
    serves S g before after (conn_visit reader writer old new ended) →
    StaysServed g before after →
    ClosesConnection given (writer.told new).bytes between last →
    TakesTurn g serves before after first last well
served_turn g serves reader writer before after first between last given old new ended well is
    accepted served stays closes =
    let answered = (writer.told new).bytes in
    record {
      visit = Some (conn_visit reader writer old new ended);
      does = (
        record {
          no_failed_read = accepted.fresh.no_failed_read;
          no_failed_write = accepted.fresh.no_failed_write;
          unwritten = accepted.fresh.unwritten;
        },
        served,
        stays,
      );
      is_next = subst (IsNextTurn (Some (reader.told old).bytes) first.waiting) (sym closes.waiting)
          accepted.is_next;
      taken = record {
        counted = closes.counts.counted ∙ ap (λ n. n + 1) accepted.counted;
        told = closes.counts.told ∙ (ap (λ told. with_turn told (closed given answered))
            accepted.told ∙ ap (λ bytes. with_turn first.told (closed bytes answered))
            accepted.is_given);
      };
      served_well = is;
      lasts = stays.lasts;
      settings = stays.settings;
    }

-- no connection could be accepted, which is a turn
pub failed_turn : {S : Type 0} (g : Ghosts S) (serves : Serving) (desk : Desk S)
    (before after : Tally) → IsUnaccepted before after → TakesTurn g serves desk desk before after
    false
failed_turn g serves desk before after turn =
    record {
      visit = None;
      does = refl;
      is_next = turn.is_next;
      taken = turn.counts;
      served_well = refl;
      lasts = database_still (desk_state g desk);
      settings = refl;
    }
