use Rattle.std.proofs.Common.{sym, ap, ◌∙◌}
use Rattle.std.specs.Option.{option_map, option_copied}
use Rattle.settlement.specs.Packets.{posting_in}
use Rattle.law.specs.Requests.{posting}
use Rattle.runs.specs.Reading.{request_in, request_of}
use Rattle.audit.specs.Reading.{case_in}
use Rattle.audit.proofs.Stands.{call_fits, packet_fits}
use Rattle.audit.proofs.cases.Case.hour_residue.Goals as goal

pub posting_residue-requires : goal.posting_residue-requires
posting_residue-requires g c =
    let case = case_in (g.F.ContractForm.meaning c.args.self.now.form.now) c.args.self.now in
    call_fits case (g.met.F.ContractForm.keeps c.args.self.now.form.now) c.args.answers.now c.requires.first c.args.hour c.requires.within c.in-Some-Post.field-0.now
    (ap (λ call. option_map request_of (option_copied call)) (sym c.in-Some-Post.is) ∙ c.standing_call.ensures) _
    (ap request_of c.in-Some-Post.field-0-is ∙ ap (λ lines. posting (record { hour = c.in-Some-Post.hour; price = c.in-Some-Post.price; lines = lines })) (sym c.deref.ensures.value))

pub packet_residue-requires : goal.packet_residue-requires
packet_residue-requires g c =
    let case = case_in (g.F.ContractForm.meaning c.args.self.now.form.now) c.args.self.now in
    packet_fits case (g.met.F.ContractForm.keeps c.args.self.now.form.now) c.args.answers.now c.requires.first c.args.hour c.requires.within c.in-Some-Packet.field-0.now
    (ap (λ call. option_map request_of (option_copied call)) (sym c.in-Some-Packet.is) ∙ c.standing_call.ensures) (posting_in c.deref-in-Some-Packet.result.now)
    (ap request_of c.in-Some-Packet.field-0-is ∙ ap (λ bytes. request_in (posting_in bytes)) (sym c.deref-in-Some-Packet.ensures.value))
