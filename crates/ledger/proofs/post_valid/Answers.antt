-- The request is read by the book's own head.
use Rattle.std.proofs.Common.{sym, ap, subst, ◌∙◌}
use Rattle.std.specs.Prelude.{Option}
use Rattle.book.specs.declared.heads.Head.{Head}
use Rattle.validity.proofs.Facts.{head_room, valid_head}
use Rattle.requests.specs.declared.records.Request.{Request}
use Rattle.requests.specs.Records.{request_of}
use Rattle.ledger.proofs.InRange.{AskedIn, request_in}
use Rattle.ledger.specs.Puts.{says_to, step_to}
use Rattle.ledger.proofs.post_valid.Goals as goal

pub head_at-h-requires : goal.head_at-h-requires
head_at-h-requires c = head_room c.args.s.now (valid_head c.args.s.now c.requires)

pub post_request-requires : goal.post_request-requires
post_request-requires c =
    let asked = sym c.request_of.ensures ∙ c.in_ok-q.ensures.ok_part in
    (record { valid = c.requires; head = c.head_at-h.ensures }, subst (λ (q : Option Request). AskedIn c.head_at-h.result q) asked (request_in c.head_at-h.result c.args.r.now))

pub returns-clause-value : goal.returns-clause-value
unfolding says_to
returns-clause-value c =
    let h = c.head_at-h.ensures in
    let asked = sym c.in_ok-q.ensures.ok_part ∙ c.request_of.ensures ∙ ap (λ (g : Head). request_of g c.args.r.now) h in
    c.post_request.ensures.value ∙ (λ i. says_to (h i) c.args.s.now (asked i))

pub returns-clause-s_after : goal.returns-clause-s_after
unfolding step_to
returns-clause-s_after c =
    let h = c.head_at-h.ensures in
    let asked = sym c.in_ok-q.ensures.ok_part ∙ c.request_of.ensures ∙ ap (λ (g : Head). request_of g c.args.r.now) h in
    c.post_request.ensures.s_after ∙ (λ i. step_to (h i) c.args.s.now (asked i))
