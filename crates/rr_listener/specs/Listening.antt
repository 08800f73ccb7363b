-- What a listener counts and tells of its turns, for the contracts of `Listener`.
use Rattle.std.specs.Prelude.{None}
use Rattle.rr_desk.specs.Turns.{Tally}
use Rattle.rr_listener.specs.declared.listener.Listener.{Listener}

-- the turns that a listener counts; it tells none of them, nor what is to come
abbrev pub listener_tally : Listener → Tally
listener_tally listener = record { turns = listener.turns; told = None; waiting = None }
