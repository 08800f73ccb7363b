-- What an object keeps of the attributes that few objects have: for `extra`, and for how contracts
-- see `Object`.
use Rattle.std.specs.Prelude.{Bool, [], ◌&&◌, ◌==◌, Box, Option, None, Some, false, length, not}
use Rattle.rr_object.specs.Parts.{ExtraParts}
use Rattle.rr_object.specs.declared.extra.Extra.{Extra}

-- what an object says that has none of `mnt-lower`, `mnt-routes` and `auth`, and says nothing of
-- sets
abbrev pub nothing : ExtraParts
nothing = record {
  lower = [];
  routes = [];
  auths = [];
  members = [];
  by_ref = record { any = false; names = [] };
  member_of = [];
}

-- an object says nothing of sets
abbrev pub says_nothing_of_sets : ExtraParts → Bool
says_nothing_of_sets e = length e.members == 0 && not e.by_ref.any
    && length e.by_ref.names == 0 && length e.member_of == 0

-- an object has none of `mnt-lower`, `mnt-routes` and `auth`, and says nothing of sets
abbrev pub says_nothing : ExtraParts → Bool
says_nothing e = says_nothing_of_sets e
    && length e.lower == 0 && length e.routes == 0 && length e.auths == 0

-- what an object says, by what it keeps: where it keeps nothing, it says nothing
abbrev pub kept_extra : {Z : Type 0} → Option (Box Extra Z) → ExtraParts
kept_extra None = nothing
kept_extra (Some extra) = extra.value
