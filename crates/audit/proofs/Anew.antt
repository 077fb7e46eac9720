-- Requests heard anew, one list after another. Assumes nothing.
use Rattle.std.proofs.Common.{◌≡◌, ℕ, zero, suc, ◌+◌, ◌<◌, Bool, true, false, ◌&&◌, List, [], ◌∷◌, ◌++◌, length, get_or, take, Some, None, Option, sym, refl, ap, ◌∙◌, append_assoc, add-one, arith}
use Rattle.std.specs.List.{list_all}
use Rattle.std.proofs.lemmas.List.{take_more, length-take, append-nil}
use Rattle.forms.specs.{declared.Contract.Contract, Meaning.Meaning}
use Rattle.settlement.specs.Posting.{Posting}
use Rattle.book.specs.declared.months.MonthFigures.{MonthFigures}
use Rattle.law.specs.{Requests.Request, Requests.entering, Only.entries_of, Only.posting_at, Only.postings_of}
use Rattle.runs.specs.Runs.{Kept, turn, answers_to, kept_after, all_done}
use Rattle.audit.specs.Again.{Running, heard_anew}

and_regroup : (a b c : Bool) → ((a && b) && c) ≡ (a && (b && c))
and_regroup true b c = refl
and_regroup false b c = refl

and_all : (b : Bool) → (b && true) ≡ b
and_all true = refl
and_all false = refl

-- all of two lists pass
all_append : {X : Type 0} (test : X → Bool) (xs ys : List X) → list_all test (xs ++ ys) ≡ (list_all test xs && list_all test ys)
all_append test [] ys = refl
all_append test (x ∷ xs) ys = ap (λ b. test x && b) (all_append test xs ys) ∙ sym (and_regroup (test x) (list_all test xs) (list_all test ys))

module _ (form : Meaning) (f : MonthFigures) where
  -- a book after one list and then another
  kept_append : (xs ys : List Request) (k : Kept) → kept_after true form f (xs ++ ys) k ≡ kept_after true form f ys (kept_after true form f xs k)
  kept_append [] ys k = refl
  kept_append (x ∷ xs) ys k = kept_append xs ys (turn true form f x k).kept

  answers_append : (xs ys : List Request) (k : Kept) → answers_to true form f (xs ++ ys) k ≡ answers_to true form f xs k ++ answers_to true form f ys (kept_after true form f xs k)
  answers_append [] ys k = refl
  answers_append (x ∷ xs) ys k = ap (λ answers. (turn true form f x k).answer ∷ answers) (answers_append xs ys (turn true form f x k).kept)

module _ (form : Meaning) (book : Running) where
  -- nothing more was heard
  pub heard_none : book ≡ heard_anew form [] book
  heard_none = λ t. record { figures = book.figures; kept = book.kept; done = sym (and_all book.done) t }

  -- one list and then another
  pub heard_append : (xs ys : List Request) → heard_anew form ys (heard_anew form xs book) ≡ heard_anew form (xs ++ ys) book
  heard_append xs ys =
      let f = book.figures in
      let middle = kept_after true form f xs book.kept in
      let done : ((book.done && all_done (answers_to true form f xs book.kept)) && all_done (answers_to true form f ys middle)) ≡ (book.done && all_done (answers_to true form f (xs ++ ys) book.kept)) =
      and_regroup book.done (all_done (answers_to true form f xs book.kept)) (all_done (answers_to true form f ys middle))
      ∙ ap (λ b. book.done && b) (sym (ap all_done (answers_append form f xs ys book.kept) ∙ all_append _ (answers_to true form f xs book.kept) (answers_to true form f ys middle))) in
      λ t. record { figures = f; kept = sym (kept_append form f xs ys book.kept) t; done = done t }

-- further requests after those that were heard
pub heard_more : (form : Meaning) (book middle after : Running) (xs ys : List Request) → middle ≡ heard_anew form xs book → after ≡ heard_anew form ys middle → after ≡ heard_anew form (xs ++ ys) book
heard_more form book middle after xs ys one two = two ∙ ap (heard_anew form ys) one ∙ heard_append form book xs ys

-- ---- the contracts of places, and the postings of hours

one_more : (number : ℕ) (xs : List (Option Contract)) → number + 1 + length xs ≡ number + suc (length xs)
one_more number xs = omega arith

-- the contracts of one list of places after another
entries_append : (number : ℕ) (xs ys : List (Option Contract)) → entries_of number (xs ++ ys) ≡ entries_of number xs ++ entries_of (number + length xs) ys
entries_append number [] ys = let here : number ≡ number + 0 = omega arith in ap (λ n. entries_of n ys) here
entries_append number (None ∷ xs) ys = entries_append (number + 1) xs ys ∙ ap (λ n. entries_of (number + 1) xs ++ entries_of n ys) (one_more number xs)
entries_append number (Some c ∷ xs) ys =
    ap (λ rest. entering number c ∷ rest) (entries_append (number + 1) xs ys ∙ ap (λ n. entries_of (number + 1) xs ++ entries_of n ys) (one_more number xs))

-- the contracts of one place more
pub entries_more : (places : List (Option Contract)) (i : ℕ) → i < length places →
    entries_of 1 (take i places) ++ entries_of (i + 1) (get_or places i None ∷ []) ≡ entries_of 1 (take (i + 1) places)
entries_more places i within =
    sym
    (ap (entries_of 1) (take_more places i None within)
    ∙ entries_append 1 (take i places) (get_or places i None ∷ [])
    ∙ ap (λ n. entries_of 1 (take i places) ++ entries_of n (get_or places i None ∷ [])) number)
  where
    number : 1 + length (take i places) ≡ i + 1
    number = omega (arith, length-take i places)

-- the posting of one hour more
pub postings_more : (posted : ℕ → Option Posting) (n : ℕ) → postings_of posted 0 n ++ posting_at (posted n) ≡ postings_of posted 0 (n + 1)
postings_more posted n = sym (ap (postings_of posted 0) (add-one n) ∙ last 0 n ∙ ap (λ h. postings_of posted 0 n ++ posting_at (posted h)) (omega arith))
  where
    last : (hour n : ℕ) → postings_of posted hour (suc n) ≡ postings_of posted hour n ++ posting_at (posted (hour + n))
    last hour zero = let here : hour ≡ hour + 0 = omega arith in append-nil (posting_at (posted hour)) ∙ ap (λ h. posting_at (posted h)) here
    last hour (suc n) =
        let next : hour + 1 + n ≡ hour + suc n = omega arith in
        ap (λ rest. posting_at (posted hour) ++ rest) (last (hour + 1) n ∙ ap (λ h. postings_of posted (hour + 1) n ++ posting_at (posted h)) next)
        ∙ sym (append_assoc (posting_at (posted hour)) (postings_of posted (hour + 1) n) (posting_at (posted (hour + suc n))))
