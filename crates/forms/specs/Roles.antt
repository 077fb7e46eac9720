-- The roles of agents, each table once. Assumes nothing.
use Rattle.std.specs.Prelude.{◌≡◌, ℕ, Bool, true, false, if◌then◌else◌, Some, None, Option, Result, MatchResult, ◌==◌, List, ◌++◌, codes}
use Rattle.std.specs.{Option.option_map_or, Fmt.decimal}
use Rattle.forms.specs.declared.roles.{Role.Role, Role.TheVariants.Generator, Role.TheVariants.Distributor, Role.TheVariants.Consumer, UnknownRole.UnknownRole}

-- 1 is a generator, 2 a distributor, 3 a large consumer
abbrev pub role_of : (code : ℕ) → Option Role
role_of code =
    if code == 1 then Some Generator
    else (if code == 2 then Some Distributor else (if code == 3 then Some Consumer else None))

-- a number is turned into the role that it names, or, where it names none, into an error that carries it
abbrev pub NamesRole : (code : ℕ) → Result Role UnknownRole → Type 0
NamesRole code answer =
    MatchResult answer (λ role. role_of code ≡ Some role)
    (λ unknown. (role_of code ≡ None) × (unknown.0 ≡ code))

-- what is printed of a number that names no role
abbrev pub unknown_role_text : UnknownRole → List ℕ
unknown_role_text unknown = codes "no role has number " ++ decimal unknown.0

-- a generator may be obligated or forced to run, and is paid for power
abbrev pub generates : Role → Bool
generates Generator = true
generates _ = false

-- distributors and large consumers carry what the pool pays
abbrev pub carries : Role → Bool
carries Distributor = true
carries Consumer = true
carries _ = false

-- a distributor's withdrawn energy counts where energy is shared among distributors
abbrev pub distributes : Role → Bool
distributes Distributor = true
distributes _ = false

-- a generator sells to all who carry what the pool pays, and a distributor to a large consumer
abbrev pub may_sell_to : (seller buyer : Role) → Bool
may_sell_to Generator buyer = carries buyer
may_sell_to Distributor Consumer = true
may_sell_to _ _ = false

-- a number names a role, and one that passes the test
abbrev pub has_role : (Role → Bool) → (code : ℕ) → Bool
has_role test code = option_map_or test (role_of code) false

-- two numbers name roles of which the first may sell to the second
abbrev pub roles_fit : (seller buyer : ℕ) → Bool
roles_fit seller buyer = has_role (λ sells. has_role (may_sell_to sells) buyer) seller
