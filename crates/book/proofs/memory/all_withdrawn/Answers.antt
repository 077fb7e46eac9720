use Rattle.std.proofs.Common.{◌≡◌, ◌*◌, ◌≤◌, true, length, sum_by, arith, rules}
use Rattle.std.proofs.lemmas.{Iterator.YieldsList-from_slice, Iterator.YieldsList-from_map, Iterator.Consumers.fits_by_from_yields_list, List.Elements.All-weaker, List.Sums.sum_by-le, List.Sums.AllPass-from_list_all, Bool.and_parts, Bool.leb-true}
use Rattle.settlement.specs.{Holdings.Holding, Limits.most_month_energy}
use Rattle.book.specs.Memory.{energy_within}
use Rattle.book.proofs.memory.all_withdrawn.Goals as goal

-- a holding whose energies are within a limit has withdrawn no more
withdrawn_within : (holding : Holding) → energy_within most_month_energy holding ≡ true → holding.second.withdrawn ≤ most_month_energy
withdrawn_within holding fits = leb-true _ _ (and_parts _ _ fits).1

pub sum-requires-clause-fits : goal.sum-requires-clause-fits
sum-requires-clause-fits c =
    let accounts = c.args.accounts.now in
    let most : sum_by (λ (a : Holding). a.second.withdrawn) accounts ≤ length accounts * most_month_energy =
    sum_by-le _ most_month_energy accounts (All-weaker _ _ withdrawn_within accounts (AllPass-from_list_all (energy_within most_month_energy) accounts c.requires.fit)) in
    fits_by_from_yields_list (λ (a : Holding). a.second.withdrawn) accounts c.map.result _
    (YieldsList-from_map _ (λ (a : Holding). a.second.withdrawn) (YieldsList-from_slice accounts cc) c.map.ensures.closure (λ x r q k. search rules))
    (omega (arith, most, c.requires.few))
