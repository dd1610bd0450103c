use Rattle.std.proofs.Common.{inl, inr, ap}
use Rattle.std.proofs.lemmas.Result.{IfOk-weaker, IfErr-weaker}
use Rattle.wb_script.specs.Commands.{letter, words_needed}
use Rattle.wb_script.specs.Grammar.{IsRequest}
use Rattle.wb_script.specs.Reading.{HasWrite, IsBadWrite, IsNotRead}
use Rattle.wb_script.proofs.Causes.{first_range, not_written, refused_so, request_write}
use Rattle.wb_script.proofs.parsing.requests.request_of.Goals as goal

pub returns-in_err-sector-in-Read-clause-refused : goal.returns-in_err-sector-in-Read-clause-refused
returns-in_err-sector-in-Read-clause-refused c =
    refused_so c.args.sectors c.args.clients c.args.words.now c.from_residual.result c.in_err-sector-in-Read.field-0.0 c.from_residual.ensures.1
    (first_range c.args.sectors c.args.clients c.args.words.now c.args.client c.args.command c.in_err-sector-in-Read.field-0.0 c.requires.shaped (inr (inl c.in-Read.is)) c.in_err-sector-in-Read.ensures.refused)

pub returns-in_err-sector-in-ReadSum-clause-refused : goal.returns-in_err-sector-in-ReadSum-clause-refused
returns-in_err-sector-in-ReadSum-clause-refused c =
    refused_so c.args.sectors c.args.clients c.args.words.now c.from_residual-in_err-sector-in-ReadSum.result c.in_err-sector-in-ReadSum.field-0.0 c.from_residual-in_err-sector-in-ReadSum.ensures.1
    (first_range c.args.sectors c.args.clients c.args.words.now c.args.client c.args.command c.in_err-sector-in-ReadSum.field-0.0 c.requires.shaped (inr (inr c.in-ReadSum.is)) c.in_err-sector-in-ReadSum.ensures.refused)

pub returns-in-Write-clause-request : goal.returns-in-Write-clause-request
returns-in-Write-clause-request c =
    IfOk-weaker c.write_of.result (HasWrite c.args.sectors c.args.words.now _) (IsRequest c.args.sectors c.args.clients c.args.words.now c.args.client)
    (λ asked has. request_write c.args.sectors c.args.clients c.args.words.now c.args.client c.args.command _ asked c.requires.shaped (ap letter c.in-Write.is) (ap words_needed c.in-Write.is) has)
    c.write_of.ensures.write

pub returns-in-Write-clause-refused : goal.returns-in-Write-clause-refused
returns-in-Write-clause-refused c =
    IfErr-weaker c.write_of.result (IsBadWrite c.args.sectors c.args.words.now) (IsNotRead c.args.sectors c.args.clients c.args.words.now)
    (λ stop bad. not_written c.args.sectors c.args.clients c.args.words.now c.args.client c.args.command stop c.requires.shaped (inl c.in-Write.is) bad)
    c.write_of.ensures.refused

pub returns-in-ForcedWrite-clause-request : goal.returns-in-ForcedWrite-clause-request
returns-in-ForcedWrite-clause-request c =
    IfOk-weaker c.write_of-in-ForcedWrite.result (HasWrite c.args.sectors c.args.words.now _) (IsRequest c.args.sectors c.args.clients c.args.words.now c.args.client)
    (λ asked has. request_write c.args.sectors c.args.clients c.args.words.now c.args.client c.args.command _ asked c.requires.shaped (ap letter c.in-ForcedWrite.is) (ap words_needed c.in-ForcedWrite.is) has)
    c.write_of-in-ForcedWrite.ensures.write

pub returns-in-ForcedWrite-clause-refused : goal.returns-in-ForcedWrite-clause-refused
returns-in-ForcedWrite-clause-refused c =
    IfErr-weaker c.write_of-in-ForcedWrite.result (IsBadWrite c.args.sectors c.args.words.now) (IsNotRead c.args.sectors c.args.clients c.args.words.now)
    (λ stop bad. not_written c.args.sectors c.args.clients c.args.words.now c.args.client c.args.command stop c.requires.shaped (inr c.in-ForcedWrite.is) bad)
    c.write_of-in-ForcedWrite.ensures.refused
