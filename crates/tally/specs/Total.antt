-- What a row of values comes to, and the days of a month. Assumes nothing.
use Rattle.std.specs.Prelude.{◌≡◌, ℕ, ◌*◌, ◌<◌, ◌≤◌, List, [], ◌∷◌, map, length, take, drop, slice_index_or, slice_set}
use Rattle.std.specs.List.{range_with_len}

-- all values of a list, joined
abbrev pub total : {T : Type 0} → T → (T → T → T) → List T → T
total nothing joined [] = nothing
total nothing joined (x ∷ xs) = joined x (total nothing joined xs)

-- f at the n places from `start` on, joined
abbrev pub total_over : {T : Type 0} → T → (T → T → T) → (start n : ℕ) → (ℕ → T) → T
total_over nothing joined start n f = total nothing joined (map f (range_with_len start n))

-- where the account is the total of a list, what comes after is its total once the item at a place changed from old to new
abbrev pub StaysTotal : {T : Type 0} → T → (T → T → T) → (account old new after : T) → Type 0
StaysTotal {T} nothing joined account old new after =
    (xs : List T) (i : ℕ) → i < length xs → slice_index_or xs i old ≡ old →
    account ≡ total nothing joined xs → after ≡ total nothing joined (slice_set xs i new)

-- the values of a day, of a month with one for each hour: the twenty-four from its first hour on, or as many as there are; days
-- are counted from 0
abbrev pub day_in : {T : Type 0} → (day : ℕ) → List T → List T
day_in day month = take 24 (drop (24 * day) month)

-- what each of the first so many days comes to
abbrev pub day_totals : {T : Type 0} → T → (T → T → T) → (days : ℕ) → List T → List T
day_totals nothing joined days month =
    map (λ day. total nothing joined (day_in day month)) (range_with_len 0 days)

-- the sum of a month is that of its days, however many are counted
abbrev pub JoinsDays : {T : Type 0} → T → (T → T → T) → (month : List T) (sum : T) → Type 0
JoinsDays nothing joined month sum =
    (days : ℕ) → length month ≤ 24 * days →
    sum ≡ total nothing joined (day_totals nothing joined days month)
