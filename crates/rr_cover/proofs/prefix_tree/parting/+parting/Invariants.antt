use Rattle.rr_cover.proofs.prefix_tree.parting.+parting.Given as goal

-- each call has a shorter prefix
abbrev pub decreases-parting : goal.decreases-parting
decreases-parting l = l.common.length
