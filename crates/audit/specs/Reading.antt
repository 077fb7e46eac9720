-- How what the audit keeps is read. Assumes nothing.
use Rattle.forms.specs.Meaning.{Meaning}
use Rattle.audit.specs.{declared.cases.Case.Case as Audited, Cases.Case, Cases.case_of}

-- what is audited, by the meaning of its form
abbrev pub case_in : {F : Type 0} → Meaning → Audited F → Case
case_in form case = case_of form case.figures case.agents.now case.calls.now
