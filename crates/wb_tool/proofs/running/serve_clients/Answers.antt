use Rattle.std.proofs.Common.{◌∙◌, false}
use Rattle.wb_tool.proofs.Threads.{served_plain, served_apart}
use Rattle.wb_tool.proofs.running.serve_clients.Goals as goal

pub returns-then-clients-eq1 : goal.returns-then-clients-eq1
returns-then-clients-eq1 g c =
    let plain = c.serve_plain.ensures in
    served_plain false _ _ _ c.serve_plain.result.answer plain.session plain.unserved plain.log_cause plain.backing_cause

pub returns-else-clients-eq1 : goal.returns-else-clients-eq1
returns-else-clients-eq1 g c =
    let apart = c.serve_all.ensures in
    served_apart c.args.script.now _ _ c.serve_all.result.answer (λ one. c.if-clients-eq1.false (c.clients.ensures ∙ one)) apart.session apart.unserved apart.log_cause apart.backing_cause
