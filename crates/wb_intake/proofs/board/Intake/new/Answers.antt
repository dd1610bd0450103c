use Rattle.std.proofs.Common.{◌+◌, ℕ, List, [], ◌∷◌, length, sym, ap, ◌∙◌, subst, arith}
use Rattle.std.proofs.lemmas.List.{length-append}
use Rattle.wb_steps.specs.Views.{beginning}
use Rattle.wb_steps.specs.Rule.{cells}
use Rattle.wb_steps.specs.declared.view.View.{View}
use Rattle.wb_steps.specs.declared.view.Role.TheVariants.{Owner}
use Rattle.wb_intake.specs.declared.pass.Pass.{Pass}
use Rattle.wb_intake.specs.Passes.{name_of, AreNewcomers}
use Rattle.wb_intake.proofs.Results.{newcomers_push}
use Rattle.wb_intake.proofs.board.Intake.new.Goals as goal

pub loop-client-preserved : goal.loop-client-preserved
loop-client-preserved c =
    let inv = c.loop-client.invariant in let p : Pass = c.found.result in let xs : List Pass = c.loop-client.passes.items in let limit : ℕ = cells c.in_ok-intake.intake.shape in
    record {
      count = (let e = ap length c.in_ok-push.ensures.items ∙ length-append xs (p ∷ []) in let n = inv.count in omega (arith, e, n));
      passes = subst (AreNewcomers (name_of c.in_ok-intake.intake) limit) (sym c.in_ok-push.ensures.items)
          (newcomers_push (name_of c.in_ok-intake.intake) limit c.loop-client.client xs p inv.count inv.passes (c.found.ensures.own.1 ∙ inv.own)
          (c.found.ensures.pass ∙ ap (λ (v : View). record (beginning Owner c.loop-client.client 0) { seen = v.seen }) inv.drain));
      own = c.found.ensures.own.0 ∙ inv.own;
      drain = c.found.ensures.counted ∙ ap (λ (v : View). record v { client = c.loop-client.client + 1 }) inv.drain;
    }
