use Rattle.std.proofs.Common.{◌≡◌, Some, sym, ap, subst, ◌∙◌}
use Rattle.rr_object.specs.Classes.{class_number}
use Rattle.rr_object.specs.Keys.{class_of}
use Rattle.rr_store.specs.Contents.{columns, object_values}
use Rattle.rr_store.specs.Versions.{form_of}
use Rattle.rr_store.proofs.ObjectLemmas.{same_object, text_of_row}
use Rattle.rr_store.proofs.objects.read_object.Goals as goal

pub returns-else-branch-clause-only : goal.returns-else-branch-clause-only
returns-else-branch-clause-only c object is of =
    let found = rw c.in-Some-2.is at c.in_ok-object.ensures.found in
    let text : _ ≡ c.in-Some.text.now = text_of_row (form_of c.args.version) object
    (columns c.args.row.now) c.in-Some.text.now of c.in-Some.ensures.found in
    let one = same_object c.args.source.now object _ is found.0 (text ∙ sym found.1) in
    let row = of.is ∙ ap (object_values (class_number (class_of object.key)) of.key) text in
    sym c.if-branch.false
    ∙ c.in_ok-is_row_of.ensures.only of.key
    (subst (λ o. form_of c.args.version o.key ≡ Some of.key) one of.formed)
    (subst (λ o. columns c.args.row.now ≡ object_values (class_number (class_of o.key)) of.key
    c.in-Some.text.now) one row)
