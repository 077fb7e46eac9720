-- The peak of an hour and of several. Assumes nothing.
use Rattle.std.specs.Prelude.{ℕ, Bool, if◌then◌else◌, ◌&&◌, ◌||◌, ◌==◌, nat_lt}
use Rattle.std.proofs.lemmas.Bool.{cond-true, eq-eqb}
use Rattle.tally.specs.declared.peak.Peak.{Peak}

-- the peak of one hour: with no kWh its hour is 0
abbrev pub peak_of : ℕ → ℕ → Peak
peak_of kwh hour = record {
  kwh = kwh;
  hour = if kwh == 0 then 0 else hour;
  idle = λ none. cond-true (kwh == 0) 0 hour (eq-eqb kwh 0 none);
}

-- no peak
abbrev pub no_peak : Peak
no_peak = peak_of 0 0

-- whether the second gives way to the first: more kWh, or as many in an earlier hour
abbrev pub beats : Peak → Peak → Bool
beats x y = nat_lt y.kwh x.kwh || (y.kwh == x.kwh && nat_lt x.hour y.hour)

-- the larger of two peaks, and of equal ones the earlier
abbrev pub peak_joined : Peak → Peak → Peak
peak_joined x y = if beats y x then y else x
