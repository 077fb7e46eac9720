use Rattle.std.proofs.Common.{ap, ◌∙◌}
use Rattle.std.specs.List.{list_all}
use Rattle.settlement.specs.{ContractFaults.place_fits, Setting.Setting}
use Rattle.book.proofs.memory.View.contracts_fit.Goals as goal

pub returns : goal.returns
returns g c = c.may_all_stand.ensures ∙ ap (λ (setting : Setting). list_all (place_fits setting) setting.places) c.setting.ensures
