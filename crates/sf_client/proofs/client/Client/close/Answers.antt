use Rattle.std.proofs.Common.{refl, ap, subst, ◌∙◌, ◌∷◌, []}
use Rattle.std.proofs.lemmas.Result.{err_from_is_err_and}
use Rattle.sf_field.specs.Fields.{be64, packet}
use Rattle.sf_reply.specs.declared.reply.Reply.{Reply}
use Rattle.sf_reply.specs.declared.reply.Reply.TheVariants.{Status}
use Rattle.sf_reply.specs.declared.reply.StatusCode.TheVariants.{Success}
use Rattle.sf_field.specs.declared.operation.HandleOp.TheVariants as handle_op
use Rattle.sf_request.specs.declared.request.WireRequest.TheVariants.{ByHandle}
use Rattle.sf_request.specs.Requests.{request_body}
use Rattle.sf_client.specs.Exchanges.{ClientView, Exchanged}
use Rattle.sf_client.specs.Outcomes.{asked}
use Rattle.sf_client.proofs.Steps.{success_is, same_fault}
use Rattle.sf_client.proofs.client.Client.close.Goals as goal

pub returns : goal.returns
returns g c =
    subst (λ (r : Reply). Exchanged c.args.self.now (asked (ByHandle handle_op.Close (be64 c.args.handle)) r ∷ []) c.settle.new.self) (success_is c.in_ok-settle.field-0 c.in_ok-settle.ensures.answer) (c.in_ok-settle.ensures.comes (ByHandle handle_op.Close (be64 c.args.handle)) (c.close_packet-packet.ensures ∙ ap (λ (v : ClientView). packet (request_body v.next (ByHandle handle_op.Close (be64 c.args.handle)))) c.self.view_is) refl)

pub returns-in_err-settle : goal.returns-in_err-settle
returns-in_err-settle g c =
    let p = err_from_is_err_and c.from_residual.result c.from_residual.ensures.1 in
    rw (p.1, p.2) (same_fault {X = Reply} {Y = Unit {0}} (λ r. r) (λ _. Status Success) c.args.self.now c.settle.new.self (ByHandle handle_op.Close (be64 c.args.handle)) c.in_err-settle.field-0.0 (c.in_err-settle.ensures.comes (ByHandle handle_op.Close (be64 c.args.handle)) (c.close_packet-packet.ensures ∙ ap (λ (v : ClientView). packet (request_body v.next (ByHandle handle_op.Close (be64 c.args.handle)))) c.self.view_is) refl))
