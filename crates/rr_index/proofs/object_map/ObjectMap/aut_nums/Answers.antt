use Rattle.std.proofs.Common.{◌∙◌}
use Rattle.std.specs.FinMap.{entries}
use Rattle.std.specs.List.{filter}
use Rattle.std.specs.Map.{values_of}
use Rattle.std.specs.Ordering.{is_gt}
use Rattle.std.proofs.lemmas.Result.{IfOk-weaker}
use Rattle.rr_object.specs.declared.key.Key.TheVariants.{AutNum}
use Rattle.rr_object.specs.KeyOrders.{key_cmp}
use Rattle.rr_index.proofs.Ranges.{aut_nums_forward, listed_aut_nums}
use Rattle.rr_index.specs.KeyRangeParts.{lies_between}
use Rattle.rr_index.proofs.object_map.ObjectMap.aut_nums.Goals as goal

pub listed-requires : goal.listed-requires
listed-requires c =
    (λ i. is_gt (key_cmp (AutNum (c.new-lowest.ensures i)) (AutNum (c.new-highest.ensures i))))
    ∙ aut_nums_forward

pub returns : goal.returns
returns c =
    IfOk-weaker c.listed.result _ _
    (λ found is.
    is
    ∙
    (λ i.
    values_of
    (filter (λ e. lies_between (AutNum (c.new-lowest.ensures i))
    (AutNum (c.new-highest.ensures i)) e.0) (entries c.args.self.now)))
    ∙ listed_aut_nums c.args.self.now c.requires)
    c.listed.ensures
