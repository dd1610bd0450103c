use Rattle.std.proofs.Common.{sym, ◌∙◌}
use Rattle.std.specs.String.{string_bytes}
use Rattle.wb_tool.proofs.Words.{three_words, five_words, six_words}
use Rattle.wb_tool.proofs.command.command_of.Goals as goal

pub returns-in-serve : goal.returns-in-serve
returns-in-serve c =
    let words = three_words string_bytes c.args.words.now c.index-words-0.result _ c.in-3.is c.index-words-0.is (sym c.as_str.ensures.value ∙ c.in-serve.is) in
    record { log = words.second; backing = words.third; are = words.are }

pub returns-in-recover : goal.returns-in-recover
returns-in-recover c =
    let words = three_words string_bytes c.args.words.now c.index-words-0.result _ c.in-3.is c.index-words-0.is (sym c.as_str.ensures.value ∙ c.in-recover.is) in
    record { log = words.second; backing = words.third; are = words.are }

pub returns-in-inspect : goal.returns-in-inspect
returns-in-inspect c =
    let words = three_words string_bytes c.args.words.now c.index-words-0.result _ c.in-3.is c.index-words-0.is (sym c.as_str.ensures.value ∙ c.in-inspect.is) in
    record { log = words.second; backing = words.third; are = words.are }

pub returns-in_ok-numbers-in-workload : goal.returns-in_ok-numbers-in-workload
returns-in_ok-numbers-in-workload c =
    let seed = c.index-words-3-in-workload in
    let count = c.index-words-4 in
    let words = five_words string_bytes c.args.words.now c.index-words-0-in-5.result seed.result count.result _ c.in-5.is c.index-words-0-in-5.is seed.is count.is
    (sym c.as_str-in-5.ensures.value ∙ c.in-workload.is)
    in record {
      log = words.second;
      backing = words.third;
      seed = string_bytes seed.result;
      count = string_bytes count.result;
      are = words.are;
      spelled = rw (c.as_str-in-workload.ensures.value, c.as_str-in-workload-2.ensures.value) at c.in_ok-numbers-in-workload.ensures;
    }

pub returns-in_ok-numbers-in-format : goal.returns-in_ok-numbers-in-format
returns-in_ok-numbers-in-format c =
    let order = c.index-words-3-in-format in
    let slots = c.index-words-4-in-format in
    let ram = c.index-words-5 in
    let words = six_words string_bytes c.args.words.now c.index-words-0-in-6.result order.result slots.result ram.result _ c.in-6.is c.index-words-0-in-6.is order.is slots.is ram.is
    (sym c.as_str-in-6.ensures.value ∙ c.in-format.is)
    in record {
      log = words.second;
      backing = words.third;
      order = string_bytes order.result;
      slots = string_bytes slots.result;
      ram = string_bytes ram.result;
      are = words.are;
      spelled = rw (c.as_str-in-format.ensures.value, c.as_str-in-format-2.ensures.value, c.as_str-in-format-3.ensures.value) at c.in_ok-numbers-in-format.ensures;
    }
