use Rattle.std.proofs.Common.{◌≡◌, sym, ap, subst, ◌∙◌}
use Rattle.std.specs.Prelude.{None, Some}
use Rattle.std.specs.FinMap.{get, insert, remove}
use Rattle.rr_auth.specs.Registries.{Reg, Sound}
use Rattle.rr_object.specs.Objects.{Obj}
use Rattle.rr_index.proofs.Changes.{apart_of}
use Rattle.rr_index.proofs.Entered.{uncrossed, under_none}
use Rattle.rr_index.proofs.Referrers.{put_and_taken, put_there}
use Rattle.rr_index.proofs.indexed_book.IndexedBook.add.Goals as goal

pub enter-requires : goal.enter-requires
enter-requires c =
    let o = c.args.object in
    record {
      fresh = under_none c.self.inside.objects c.self.inside.indexes o c.self.invariant.indexes
          (ap (λ (s : Reg). get s o.key) c.self.view_is ∙ c.requires.free);
      apart = uncrossed c.self.inside.objects c.self.inside.indexes o c.self.invariant.indexes
          (apart_of c.self.inside.objects o (subst (λ (s : Reg). Sound (insert s o.key o))
          (sym c.self.view_is) c.requires.sound));
    }

pub invariant_of-self-in-Err : goal.invariant_of-self-in-Err
invariant_of-self-in-Err c =
    let r = c.self.inside.objects in
    let o = c.args.object in
    let free : get r o.key ≡ None = ap (λ (s : Reg). get s o.key) c.self.view_is
    ∙ c.requires.free in
    record {
      sound = subst Sound (sym c.in-Err.ensures.puts.err) c.self.invariant.sound;
      indexes = c.leave_and_free.ensures (insert r o.key o)
          (c.in_ok-enter.ensures.ok r c.self.invariant.indexes free)
          (subst (λ (x : Obj). get (insert r o.key o) x.key ≡ Some x)
          (sym c.in-Err.ensures.returned) (put_there r o.key o))
          (c.in-Err.ensures.puts.err ∙ sym (put_and_taken r o.key o free)
          ∙ ap (λ (x : Obj). remove (insert r o.key o) x.key) (sym c.in-Err.ensures.returned));
    }
