use Rattle.std.proofs.Common.{◌∙◌, refl, inl, inr, arith}
use Rattle.wb_tool.proofs.Accounts.{telling_same, telling_not_6}
use Rattle.wb_tool.proofs.Recoverings.{recover_stopped, recover_well, telling_not_7}
use Rattle.wb_tool.proofs.recovering.recover_log.Goals as goal

pub returns-in-Ok-recovered_text : goal.returns-in-Ok-recovered_text
returns-in-Ok-recovered_text g c =
    let call = c.recover.ensures in
    let well = c.in-Ok.ensures in
    let told = telling_same _ _ _ _ c.answer.ensures (c.as_str.ensures.value ∙ c.in-Ok-recovered_text.ensures) in
    recover_well _ _ _ _ c.recover.result c.in-Ok.recovery c.in-Ok.is (record { in_turn = call.goes; crash = call.crash; contents = call.contents }) call.log_cause call.backing_cause
    (telling_not_6 _ _ _ told) (telling_not_7 _ _ _ told)
    (record {
      found = well.numbers.0;
      may = well.numbers.1;
      numbers = well.numbers.2;
      chain = well.chain;
      all_put = well.all_put;
      records = well.records;
      durable = well.durable;
      left = well.left;
    })
    (inr told)

pub returns-in-Err-recovered_text : goal.returns-in-Err-recovered_text
returns-in-Err-recovered_text g c =
    let call = c.recover.ensures in
    let well = c.in-Ok.ensures in
    recover_well _ _ _ _ c.recover.result c.in-Ok.recovery c.in-Ok.is (record { in_turn = call.goes; crash = call.crash; contents = call.contents }) call.log_cause call.backing_cause
    (λ six. omega arith) (λ seven. omega arith)
    (record {
      found = well.numbers.0;
      may = well.numbers.1;
      numbers = well.numbers.2;
      chain = well.chain;
      all_put = well.all_put;
      records = well.records;
      durable = well.durable;
      left = well.left;
    })
    (inl refl)

pub returns-in-Err : goal.returns-in-Err
returns-in-Err g c =
    let call = c.recover.ensures in
    let refused = c.refuse_recovery.ensures in
    recover_stopped _ _ _ _ c.recover.result c.in-Err.stop c.in-Err.is (record { in_turn = call.goes; crash = call.crash; contents = call.contents }) call.log_cause call.backing_cause
    c.in-Err.ensures.refused c.in-Err.ensures.in_turn refused.told refused.log_fault refused.backing_fault
