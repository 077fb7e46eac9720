-- Money: lines of which each keeps 64 bits. Assumes nothing.
use Rattle.std.specs.Int.{int_wrap, w64}
use Rattle.std.proofs.lemmas.Int.{SFits-int_wrap}
use Rattle.tally.specs.{Lines.Lines, Lines.no_lines, Lines.lines_joined, Lines.lines_undone, declared.money.Money.Money}

-- the money that lines are, each wrapped to 64 bits
abbrev pub money_of : Lines → Money
money_of x = record {
  market = int_wrap w64 x.market;
  contract = int_wrap w64 x.contract;
  overcost = int_wrap w64 x.overcost;
  power = int_wrap w64 x.power;
  market_fits = (SFits-int_wrap w64 x.market).sfits;
  contract_fits = (SFits-int_wrap w64 x.contract).sfits;
  overcost_fits = (SFits-int_wrap w64 x.overcost).sfits;
  power_fits = (SFits-int_wrap w64 x.power).sfits;
}

-- the lines of money
abbrev pub lines_of : Money → Lines
lines_of m =
    record { market = m.market; contract = m.contract; overcost = m.overcost; power = m.power }

-- no money
abbrev pub no_money : Money
no_money = money_of no_lines

-- line by line, the two together
abbrev pub money_joined : Money → Money → Money
money_joined x y = money_of (lines_joined (lines_of x) (lines_of y))

-- line by line, the same owed the other way
abbrev pub money_undone : Money → Money
money_undone x = money_of (lines_undone (lines_of x))
