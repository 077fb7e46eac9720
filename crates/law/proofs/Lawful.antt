-- The law over whole runs, from three books that were run as the rules say. Assumes nothing.
use Rattle.std.specs.List.{list_all}
use Rattle.std.proofs.Common.{◌≡◌, List, map, ℤ, neg_ℤ, sym, refl, ap, ◌∙◌}
use Rattle.tally.proofs.Numbers.{map_counting_same}
use Rattle.forms.specs.Meaning.{Meaning, Keeps, Alike}
use Rattle.law.specs.{Law.Book, Law.Ran, Law.Settled, Law.unspoilt, Requests.Opening, Requests.count_in, Requests.Request, Requests.without_contracts, Requests.told_without, Standing.Standing, Standing.nothing_stands, Turns.after, Only.only_standing, Worked.worked, Worked.residue_after, Replies.manner_of, Replies.is_done}
use Rattle.law.proofs.{Alike.replies_from_alike, Alike.standing_after_alike, Alike.ran_alike, Again.again_leads, Again.again_level, Apart.from_apart, Apart.alike_from, Balance.balanced, Order.order, Sound.Opened, Sound.Sound, Soundness.sound_none, Soundness.sound_after, Strangers.strangers, Unspoilt.unspoilt_told}

module _ (form : Meaning) (keeps : Keeps form) (o : Opening) (opened : Opened o) (requests : List Request) where
  -- what stands after the list
  abbrev whole : Standing
  whole = after form o requests

  whole_sound : Sound form o whole
  whole_sound = sound_after form o requests

  -- a form is alike to itself
  alike_itself : Alike form form
  alike_itself = record { takes = λ t p f. refl; quantity = λ t p f s. refl; legs = λ t p f q s w. refl }

  pub settled : (first second third : Book) (residue : ℤ) → Ran form o requests first → Ran form o (without_contracts requests) second → Ran form o (only_standing o whole) third →
      residue ≡ residue_after o whole → Settled form o requests first second third residue
  settled first second third residue run run_without run_again left = record {
    run = run;
    run_without = run_without;
    run_again = run_again;
    answers = record {
      alike = ap (λ told. map manner_of (told_without requests told)) run.answers ∙ alike_from form o nothing_stands requests ∙ ap (map manner_of) (sym run_without.answers);
    };
    stores = record { sound = ap (list_all unspoilt) run.answers ∙ unspoilt_told form o nothing_stands requests };
    stores_without = record { sound = ap (list_all unspoilt) run_without.answers ∙ unspoilt_told form o nothing_stands (without_contracts requests) };
    balances = record {
      left = left;
      balanced = run.together ∙ balanced form keeps o opened whole whole_sound ∙ ap neg_ℤ (sym left);
      balanced_without = run_without.together ∙ balanced form keeps o opened _ (sound_after form o (without_contracts requests)) ∙ ap neg_ℤ (ap (residue_after o) (from_apart form o nothing_stands requests) ∙ sym left);
    };
    strangers = record { same = strangers form o requests };
    order = record { same = λ same alike other level i agent. order form keeps o opened whole whole_sound same alike (after same o other) level i };
    forms = record {
      answers = λ same alike. replies_from_alike form keeps o opened same alike nothing_stands (sound_none form o);
      stands = λ same alike. standing_after_alike form keeps o opened same alike nothing_stands;
      run = ran_alike form keeps o opened;
    };
    again = record {
      accepted = ap (list_all is_done) run_again.answers ∙ (again_leads form o whole whole_sound).all;
      level = again_level form o whole whole_sound;
      same =
          run_again.stands
          ∙ map_counting_same (count_in o) _ (worked form o whole)
          (λ i agent. order form keeps o opened whole whole_sound form alike_itself _ (again_level form o whole whole_sound) i)
          ∙ sym run.stands;
    };
  }
