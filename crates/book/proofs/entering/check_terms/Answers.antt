use Rattle.std.proofs.Common.{ap, ◌∙◌}
use Rattle.settlement.specs.{ContractFaults.contract_fault, Setting.Setting}
use Rattle.book.proofs.entering.check_terms.Goals as goal

pub returns : goal.returns
returns g c = c.check_contract.ensures ∙ ap (λ (setting : Setting). contract_fault setting c.args.contract) c.setting.ensures
