-- The law over whole runs: a statement follows from what stands. Assumes nothing.
use Rattle.std.specs.Prelude.{◌≡◌, ℕ, ◌<◌, Bool, true, not, List, map, ℤ, neg_ℤ, ◌==◌}
use Rattle.std.specs.List.{range_with_len, list_all}
use Rattle.forms.specs.Meaning.{Meaning, Alike}
use Rattle.settlement.specs.Faults.{number_of}
use Rattle.law.specs.{Requests.Opening, Requests.count_in, Requests.Request, Requests.without_contracts, Requests.told_without, Turns.after, Level.Level, Parties.is_stranger, Only.only_standing, Worked.Worked, Worked.statement_after, Worked.balances_after, Worked.residue_after, Replies.Reply, Replies.refused, Replies.replies_to, Replies.manner_of, Replies.is_done}

-- a book as it was run: what its host was told, every agent's statement at the end, and all balances together
pub record Book : Type 0 where
  pub told : List Reply
  pub statements : List Worked
  pub balances : ℤ

-- it was run as the rules say: each request is refused exactly for the fault that it meets against what stands; every
-- statement, on the way and at the end, is the one worked from what stands, as whole numbers; and so are all balances together
pub record Ran (form : Meaning) (o : Opening) (requests : List Request) (book : Book) : Type 0 where
  pub answers : book.told ≡ replies_to form o requests
  pub stands : book.statements ≡ map (statement_after form o requests) (range_with_len 0 (count_in o))
  pub together : book.balances ≡ balances_after form o (after form o requests)

-- requests that a book and one without contracts both heard were answered alike, refusals with the same number and place
pub record AnsweredAlike (requests : List Request) (book without : Book) : Type 0 where
  pub alike : map manner_of (told_without requests book.told) ≡ map manner_of without.told

-- a request was not refused for a stored figure outside its limit
abbrev pub unspoilt : Reply → Bool
unspoilt (refused fault) = not (number_of fault == 2)
unspoilt _ = true

-- what is stored was never found outside its limits
pub record StoresSoundly (book : Book) : Type 0 where
  pub sound : list_all unspoilt book.told ≡ true

-- the residue is worked from the postings of the standing hours alone, and all balances together are minus the residue, with
-- contracts and without
pub record Balances (form : Meaning) (o : Opening) (requests : List Request) (book without : Book) (residue : ℤ) : Type 0 where
  pub left : residue ≡ residue_after o (after form o requests)
  pub balanced : book.balances ≡ neg_ℤ residue
  pub balanced_without : without.balances ≡ neg_ℤ residue

-- an agent that is party to none of the standing contracts has the same statement with and without the contracts
pub record Strangers (form : Meaning) (o : Opening) (requests : List Request) : Type 0 where
  pub same : (i : ℕ) → i < count_in o → is_stranger i (after form o requests).places ≡ true →
      statement_after form o (without_contracts requests) i ≡ statement_after form o requests i

-- how it came to stand does not matter, nor which form of the same meaning was asked: what leaves the same standing gives every
-- agent the same statement
pub record SameStanding (form : Meaning) (o : Opening) (requests : List Request) : Type 0 where
  pub same : (other : Meaning) → Alike form other → (others : List Request) →
      Level o (after form o requests) (after other o others) →
      (i : ℕ) → i < count_in o → statement_after other o others i ≡ statement_after form o requests i

-- two forms of the same meaning give every list of requests the same answers, whole, and leave the same standing; so a book that
-- was run by the one was run as the other says, and all that is said here of books of one form is so of books of two
pub record SameForms (form : Meaning) (o : Opening) : Type 0 where
  pub answers : (other : Meaning) → Alike form other → (requests : List Request) →
      replies_to other o requests ≡ replies_to form o requests
  pub stands : (other : Meaning) → Alike form other → (requests : List Request) →
      after other o requests ≡ after form o requests
  pub run : (other : Meaning) → Alike form other → (requests : List Request) → (book : Book) →
      Ran other o requests book → Ran form o requests book

-- what stands after a list of requests, asked of a book at its opening
abbrev pub asked_again : Meaning → Opening → List Request → List Request
asked_again form o requests = only_standing o (after form o requests)

-- a book that heard only what stands in another at the end accepted all of it, and the same stands in it, so that every agent has
-- the same statement
pub record Repeats (form : Meaning) (o : Opening) (requests : List Request) (book again : Book) : Type 0 where
  pub accepted : list_all is_done again.told ≡ true
  pub level : Level o (after form o requests) (after form o (asked_again form o requests))
  pub same : again.statements ≡ book.statements

-- What is so of every form that keeps its promises, every accepted opening and every list of requests: of the book that heard the
-- list, of a second that heard it without its requests about contracts, of a third that heard only what stands in the first at
-- the end, and of the residue of the standing hours.
pub record Settled (form : Meaning) (o : Opening) (requests : List Request) (first second third : Book) (residue : ℤ) : Type 0 where
  pub run : Ran form o requests first
  pub run_without : Ran form o (without_contracts requests) second
  pub run_again : Ran form o (asked_again form o requests) third
  pub answers : AnsweredAlike requests first second
  pub stores : StoresSoundly first
  pub stores_without : StoresSoundly second
  pub balances : Balances form o requests first second residue
  pub strangers : Strangers form o requests
  pub order : SameStanding form o requests
  pub forms : SameForms form o
  pub again : Repeats form o requests first third
