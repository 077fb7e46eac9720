-- The words that stand for numbers.
use Rattle.std.specs.Prelude.{ℕ, ◌+◌, if◌then◌else◌, ◌==◌, List, [], ◌∷◌, Some, None, codes, Option}
use Rattle.std.specs.Str.{bytes_eq}
use Rattle.forms.specs.declared.Delivery.{Delivery}
use Rattle.forms.specs.declared.Delivery.TheVariants.{MarketBar, SellerNode, BuyerNode}
use Rattle.gibzurg.specs.declared.choices.Choice.{Choice}
use Rattle.gibzurg.specs.declared.choices.Choice.TheVariants.{Weekday, Role, Class}
use Rattle.gibzurg.specs.Numbers.{number_of}

-- the place of a word among names that are counted from n; any other word is a number written out
abbrev pub place_among : ℕ → List (List ℕ) → List ℕ → Option ℕ
place_among n [] word = number_of word
place_among n (name ∷ names) word = if bytes_eq word name then Some n else place_among (n + 1) names word

-- weekdays are counted from 0
abbrev pub weekdays : List (List ℕ)
weekdays =
    codes "monday" ∷ codes "tuesday" ∷ codes "wednesday" ∷ codes "thursday" ∷ codes "friday"
    ∷ codes "saturday" ∷ codes "sunday" ∷ []

-- roles are counted from 1
abbrev pub roles : List (List ℕ)
roles = codes "generator" ∷ codes "distributor" ∷ codes "consumer" ∷ []

-- classes are counted from 1
abbrev pub classes : List (List ℕ)
classes = codes "normal" ∷ codes "obligated" ∷ codes "forced" ∷ []

-- the number that a word of a choice stands for
abbrev pub meant : Choice → List ℕ → Option ℕ
meant Weekday word = place_among 0 weekdays word
meant Role word = place_among 1 roles word
meant Class word = place_among 1 classes word

-- places of delivery are counted from 1
abbrev pub places : List (List ℕ)
places = codes "market" ∷ codes "seller" ∷ codes "buyer" ∷ []

-- the place of delivery of a number, where there is one
abbrev pub delivery_numbered : Option ℕ → Option Delivery
delivery_numbered None = None
delivery_numbered (Some n) =
    if n == 1 then Some MarketBar
    else (if n == 2 then Some SellerNode else (if n == 3 then Some BuyerNode else None))

-- the place of delivery that a word stands for
abbrev pub place_meant : List ℕ → Option Delivery
place_meant word = delivery_numbered (place_among 1 places word)
