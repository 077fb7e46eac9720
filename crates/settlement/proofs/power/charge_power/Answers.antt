use Rattle.std.proofs.Common.{arith}
use Rattle.settlement.proofs.Powers.{power_weights_le}
use Rattle.settlement.proofs.power.charge_power.Goals as goal

pub fill_parts-requires-clause-limit : goal.fill_parts-requires-clause-limit
fill_parts-requires-clause-limit c = omega (arith, power_weights_le c.args.agents.now c.args.accounts.now c.requires.accounts_long, c.requires.within)
