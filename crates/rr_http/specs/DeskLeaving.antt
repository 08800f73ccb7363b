-- That a desk that answers is left as it was: a proof that a ghost item of `src/desk_registrar.rt`
-- names.
use Rattle.std.specs.Prelude.{List, ℕ, refl}
use Rattle.std.proofs.Common.{subst, sym}
use Rattle.sqlite_trees.specs.declared.store.Store as store
use Rattle.rr_desk.specs.declared.desk.Desk.{Desk}
use Rattle.rr_desk.specs.Lasting.{database_still}
use Rattle.rr_http.specs.DeskRegistrars.{IsDeskAnswer, desk_registrar}
use Rattle.rr_http.specs.Registrars.{Leaves}

-- an answer of a desk leaves its settings, and what is to last of it
pub desk_answer_leaves : {S : Type 0} (g : store.Ghosts S) (before : Desk S)
    (query text : List ℕ) (after : Desk S) → IsDeskAnswer g before query text after →
    Leaves (desk_registrar g).ledger (desk_registrar g).settings before after
desk_answer_leaves g before query text after is =
    subst (λ desk. Leaves (desk_registrar g).ledger (desk_registrar g).settings before desk)
    (sym is.same) (record { lasts = database_still _; same_settings = refl })
