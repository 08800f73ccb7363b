-- What private functions that serve a connection promise each other. No public clause cites these.
use Rattle.std.specs.Prelude.{ℕ, List}
use Rattle.rr_desk.specs.Turns.{Visit}
use Rattle.rr_http.specs.declared.registrar.Registrar.{Ghosts}
use Rattle.rr_http.specs.Lines.{speaks_http}
use Rattle.rr_http.specs.Serving.{ServesWants}
use Rattle.rr_http.specs.Wants.{HeadWants, Wants, is_full}

-- what is wanted by the bytes that were read of a connection is done
pub record ServesHead {D : Type 0} (registrar : Ghosts D) (read : List ℕ) (before after : D)
    (visit : Visit) : Type 0 where
  pub wants : Wants
  pub are_wanted : HeadWants (speaks_http read) read (is_full read) wants
  pub serves : ServesWants registrar read wants before after visit
