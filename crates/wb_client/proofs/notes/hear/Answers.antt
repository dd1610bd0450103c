-- The note that the teller leaves next was heard.
use Rattle.std.proofs.Common.{ℕ, ◌≡◌, ◌+◌, ◌∷◌, get_or, Option, IfSome, ◌∙◌, subst}
use Rattle.std.proofs.lemmas.Option.{slice_get-get_or}
use Rattle.wb_intake.specs.Passes.{client_of_pass, view_of}
use Rattle.wb_intake.specs.declared.pass.Note.{Note}
use Rattle.wb_board.specs.Notes.{IsToldIn, IsNumbered}
use Rattle.wb_client.specs.Played.{counts_from}
use Rattle.wb_client.specs.declared.teller.Teller.{Teller}
use Rattle.wb_client.proofs.Tellers.{have_heard}
use Rattle.wb_client.proofs.notes.hear.Goals as goal

pub returns-clause-heard : goal.returns-clause-heard
returns-clause-heard g c =
    let p = c.args.pass.now in
    let note = c.in_ok-note.note in
    let old : Teller = get_or c.args.tellers.now c.args.teller c.index-tellers-teller.result in
    let new = c.next-number.new.self in
    let number : ℕ = c.next-number.result in
    let own : c.client.result ≡ client_of_pass p = c.client.ensures ∙ p.owns.1 in
    let told = subst (λ (o : Option Note). IfSome o (IsToldIn g.T.Named.carried.intake)) c.in_ok-note.ensures.ok_part c.hear.ensures.told in
    let numbered = subst (λ (o : Option Note). IfSome o (IsNumbered c.args.teller number)) c.in_ok-note.ensures.ok_part c.hear.ensures.is in
    have_heard g.T.Named.carried (client_of_pass p) c.args.teller number (view_of p) (view_of c.hear-2.new.pass) note c.args.tellers.now old new p.owns.0
    (slice_get-get_or c.args.tellers.now c.args.teller c.index-tellers-teller.result c.requires.known)
    (subst (λ (client : ℕ). counts_from old.told client old.rest.now ≡ (number + 1) ∷ counts_from new.told client new.rest.now) own c.next-number.ensures)
    told numbered c.hear-2.ensures.heard
