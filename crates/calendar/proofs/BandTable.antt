-- A table of 168 bands keeps the rule if one test, computed over all its entries, says so. Assumes nothing.
use Rattle.std.proofs.Common.{◌≡◌, ℕ, ◌+◌, ◌*◌, ◌/◌, ◌%◌, ◌<◌, true, List, get_or, refl, ap, ◌∙◌, arith, lit<}
use Rattle.std.proofs.lemmas.Bool.Decides.{Decides-below_and}
use Rattle.calendar.specs.{Bands.band_of, Bands.band_at, Bands.same, Bands.right_below, Bands.table_is_right, Weekdays.number_of, Weekdays.weekday_at, declared.bands.Band.Band, declared.bands.Band.TheVariants.Peak, declared.bands.Band.TheVariants.Medium, declared.bands.Band.TheVariants.Base, declared.weekdays.Weekday.Weekday, declared.weekdays.Weekday.TheVariants.Monday}

-- bands that the test finds the same are equal
same_is : (a b : Band) → same a b ≡ true → a ≡ b
same_is Peak Peak e = refl
same_is Medium Medium e = refl
same_is Base Base e = refl
same_is _ _ e = cc

-- what the test says of each place
tested : (table : List Band) (n : ℕ) → right_below table n ≡ true → (k : ℕ) → k < n → get_or table k Peak ≡ band_at k
tested table n passed =
    (Decides-below_and (λ k. same (get_or table k Peak) (band_at k)) (λ k. get_or table k Peak ≡ band_at k) (right_below table)
    (λ k. (same_is (get_or table k Peak) (band_at k), λ e. same_refl k e)) refl (λ _. refl) n).0 passed
  where
    same_self : (b : Band) → same b b ≡ true
    same_self Peak = refl
    same_self _ = refl

    same_refl : (k : ℕ) → get_or table k Peak ≡ band_at k → same (get_or table k Peak) (band_at k) ≡ true
    same_refl k e = rw e (same_self (band_at k))

-- a weekday has a number below 7, and is the one with that number
number_below : (weekday : Weekday) → number_of weekday < 7
number_below Monday = lit< tt
number_below _ = lit< tt

at_number : (weekday : Weekday) → weekday_at (number_of weekday) ≡ weekday
at_number Monday = refl
at_number _ = refl

-- an hour of a weekday, by its place in the week
at_place : (weekday : Weekday) (hour : ℕ) → hour < 24 → band_at (24 * number_of weekday + hour) ≡ band_of weekday hour
at_place weekday hour within =
    let day : (24 * number_of weekday + hour) / 24 ≡ number_of weekday = omega arith in
    let rest : (24 * number_of weekday + hour) % 24 ≡ hour = omega arith in
    ap (λ d. band_of (weekday_at d) ((24 * number_of weekday + hour) % 24)) day
    ∙ ap (band_of (weekday_at (number_of weekday))) rest
    ∙ ap (λ w. band_of w hour) (at_number weekday)

pub rule : (table : List Band) → table_is_right table ≡ true → (weekday : Weekday) (number hour : ℕ) → number ≡ number_of weekday → hour < 24 → get_or table (24 * number + hour) Peak ≡ band_of weekday hour
rule table passed weekday number hour is within =
    tested table 168 passed (24 * number + hour) (omega (arith, number_below weekday))
    ∙ ap (λ n. band_at (24 * n + hour)) is
    ∙ at_place weekday hour within
