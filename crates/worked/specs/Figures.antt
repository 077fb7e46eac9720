-- The figures that the rules give for inputs small enough to be worked by hand. Assumes nothing.
use Rattle.std.specs.Prelude.{ℕ, List, [], ◌∷◌, map, ℤ, pos}
use Rattle.calendar.specs.{Bands.band_of, declared.bands.Band.Band, declared.bands.Band.TheVariants.Peak, declared.bands.Band.TheVariants.Medium, declared.bands.Band.TheVariants.Base, declared.weekdays.Weekday.TheVariants.Monday, declared.weekdays.Weekday.TheVariants.Saturday, declared.weekdays.Weekday.TheVariants.Sunday}
use Rattle.forms.specs.{declared.Contract.Contract, declared.Delivery.TheVariants.MarketBar, declared.Facts.Facts, declared.Parties.Parties, Layers.product_meaning}
use Rattle.meter.specs.{declared.quarters.Quarter.Quarter, Quarters.net_kwh, Quarters.external_kwh, Quarters.auxiliaries_kwh}
use Rattle.packets.specs.Numbers.{spelled}
use Rattle.valuation.specs.{Amounts.amount_of, Excess.excess_of, Sharing.part_of}
use Rattle.worked.specs.Month.{month_balance, month_residue}

-- a band as a number
abbrev pub band_number : Band → ℕ
band_number Peak = 1
band_number Medium = 2
band_number Base = 3

-- three weights of 1
abbrev pub three_weights : List ℕ
three_weights = 1 ∷ 1 ∷ 1 ∷ []

-- a share, between a generator with a capacity of 4,000 kWh in an hour and a distributor, with this margin
abbrev pub share_with : (margin : ℕ) → Contract
share_with margin = record {
  delivery = MarketBar;
  kind = 2;
  seller = 1;
  buyer = 2;
  first = 0;
  last = 23;
  price = 50000;
  peak = 0;
  medium = 0;
  base = 0;
  margin = margin;
}

abbrev pub share_parties : Parties
share_parties = record { seller = record { role = 1; capacity = 4000 }; buyer = record { role = 2; capacity = 0 } }

-- an hour in which the seller injected 1,000 kWh, and the buyer withdrew 300 of the 900 kWh of all distributors
abbrev pub share_facts : Facts
share_facts = record {
  band = Medium;
  price = 60000;
  seller_factor = 95000;
  buyer_factor = 102000;
  injected = 1000;
  withdrawn = 300;
  distributors_withdrawn = 900;
}

-- what the product makes of that hour
abbrev pub shared_with : (margin : ℕ) → ℕ
shared_with margin = product_meaning.quantity (share_with margin) share_parties share_facts

-- a quarter of an hour in which a plant generated 10 kWh, and took 5 kWh from the net for itself
abbrev pub quarter_counted : Quarter
quarter_counted = record { gross_delivered = 10; gross_received = 0; net_delivered = 0; net_received = 5 }

-- the table: each row is a definition of the rules at its inputs
abbrev pub figures : List ℤ
figures =
    -- the amount of 1,000 kWh at factor 98,000 and price 51,234
    pos (amount_of 1000 98000 51234)
    -- the amount of 1 kWh at factor 100,000 and price 50
    ∷ pos (amount_of 1 100000 50)
    -- the same at price 49
    ∷ pos (amount_of 1 100000 49)
    -- 10 points shared over the weights 1, 1 and 1: the first part
    ∷ pos (part_of 10 three_weights 0)
    -- the second part
    ∷ pos (part_of 10 three_weights 1)
    -- the third part
    ∷ pos (part_of 10 three_weights 2)
    -- the quantity of the share with a margin of 33 kWh
    ∷ pos (shared_with 33)
    -- the same with a margin of 400 kWh
    ∷ pos (shared_with 400)
    -- the excess at price 50,000 of gross 100 and injected 95, at factor 100,000 and cost 80,000
    ∷ pos (excess_of 50000 100 95 100000 80000)
    -- the band of Monday's hour that begins at 7
    ∷ pos (band_number (band_of Monday 7))
    -- the band of Saturday's hour that begins at 7
    ∷ pos (band_number (band_of Saturday 7))
    -- the band of Sunday's hour that begins at 21
    ∷ pos (band_number (band_of Sunday 21))
    -- the generator's balance of the month
    ∷ month_balance 0
    -- the distributor's balance of the month
    ∷ month_balance 1
    -- the residue of the month
    ∷ month_residue
    -- the net energy of the quarter
    ∷ pos (net_kwh quarter_counted)
    -- its external auxiliaries
    ∷ pos (external_kwh quarter_counted)
    -- its auxiliaries
    ∷ pos (auxiliaries_kwh quarter_counted)
    -- the bytes of 300 in a packet, all of them: the first and the last
    ∷ map pos (spelled 300)
