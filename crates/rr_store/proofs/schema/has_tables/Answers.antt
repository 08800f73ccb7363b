use Rattle.std.proofs.Common.{rules, ◌≡◌, ◌-◌, ◌∷◌, drop, length, take, true, ap, sym, ◌∙◌}
use Rattle.std.specs.List.{list_all}
use Rattle.rr_store.specs.Tables.{stands_apart}
use Rattle.rr_store.proofs.NumberLemmas.{has_them, first_three, rest_is, told_first}
use Rattle.rr_store.proofs.schema.has_tables.Goals as goal

pub returns-in-len3-up-clause-is : goal.returns-in-len3-up-clause-is
returns-in-len3-up-clause-is c ours =
    let tables = c.args.schema.now.tables in
    let first = c.first-item.result in
    let second = c.second-item.result in
    let third = c.third-item.result in
    let all : tables ≡ first ∷ second ∷ third ∷ drop 3 tables = first_three tables first second
    third (search rules) (search rules) (search rules) (search rules) in
    let apart : list_all stands_apart (drop 3 tables) ≡ true = ap (list_all stands_apart)
    (sym (rest_is tables)) ∙ search (rules, c.are_ours.ensures.apart ours) in
    has_them c.args.schema.now first second third (drop 3 tables) all
    (c.are_ours.ensures.meta ours) (c.are_ours.ensures.object ours)
    (c.are_ours.ensures.named ours) apart

pub returns-in-len3-up-clause-only : goal.returns-in-len3-up-clause-only
returns-in-len3-up-clause-only c has =
    let tables = c.args.schema.now.tables in
    let first = c.first-item.result in
    let second = c.second-item.result in
    let third = c.third-item.result in
    let all : tables ≡ first ∷ second ∷ third ∷ drop 3 tables = first_three tables first second
    third (search rules) (search rules) (search rules) (search rules) in
    let told = told_first c.args.schema.now first second third (drop 3 tables) all has in
    let apart : list_all stands_apart (take (length tables - 3) (drop 3 tables)) ≡ true =
    ap (list_all stands_apart) (rest_is tables) ∙ told.3 in
    c.are_ours.ensures.only told.0 told.1 told.2 (search (rules, apart))
