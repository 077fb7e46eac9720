-- Sharing points over weights, to the last point. Assumes nothing.
use Rattle.std.specs.Prelude.{◌≡◌, ℕ, ◌+◌, ◌-◌, ◌*◌, ◌/◌, ◌%◌, ◌<◌, List, map, length, take, sum, slice_index}
use Rattle.std.specs.List.{range_with_len}

-- The part of a weight, when points are shared over weights of this total, those before it adding up to `before`: the quotient
-- times the weight, and so much of the remainder as the running sum moves on. Where the total is 0, so is the part.
abbrev pub part_at : (points total before weight : ℕ) → ℕ
part_at points total before weight =
    points / total * weight + points % total * (before + weight) / total - points % total * before / total

-- The part of the weight at place i, from 0.
abbrev pub part_of : ℕ → List ℕ → ℕ → ℕ
part_of points weights i =
    part_at points (sum weights) (sum (take i weights)) (slice_index weights i)

-- The parts of all weights, in their order.
abbrev pub parts_of : ℕ → List ℕ → List ℕ
parts_of points weights = map (part_of points weights) (range_with_len 0 (length weights))

-- The parts add up to what was shared, if there is any weight.
abbrev pub AddsUp : (points : ℕ) (weights parts : List ℕ) → Type 0
AddsUp points weights parts = 0 < sum weights → sum parts ≡ points

-- No part is a whole point away from its exact proportion, points × weight / total.
abbrev pub Fair : (points : ℕ) (weights parts : List ℕ) → Type 0
Fair points weights parts =
    0 < sum weights → (i : ℕ) → i < length weights →
    (slice_index parts i * sum weights < points * slice_index weights i + sum weights)
    × (points * slice_index weights i < slice_index parts i * sum weights + sum weights)
