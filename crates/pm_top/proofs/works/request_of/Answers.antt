use Rattle.std.specs.String.{string_bytes}
use Rattle.pm_top.proofs.RequestLemmas.{of_four, of_three, of_two}
use Rattle.pm_top.proofs.works.request_of.Goals as goal

pub returns-in-len2 : goal.returns-in-len2
returns-in-len2 c = of_two string_bytes c.args.words.now c.command-item-then-words-lt3.result c.as_str-in-len2.result.now c.request_of_two.result c.in-len2.len_at_least c.in-len2.len_below c.command-item-then-words-lt3.is c.as_str-in-len2.ensures.value c.request_of_two.ensures

pub returns-in-len3 : goal.returns-in-len3
returns-in-len3 c = of_three string_bytes c.args.words.now c.command-item-then-words-lt4.result c.as_str-in-len3.result.now c.request_of_three.result c.in-len3.len_at_least c.in-len3.len_below c.command-item-then-words-lt4.is c.as_str-in-len3.ensures.value c.request_of_three.ensures

pub returns-in-len4 : goal.returns-in-len4
returns-in-len4 c = of_four string_bytes c.args.words.now c.command-item-then-words-lt5.result c.as_str-in-len4.result.now c.request_of_four.result c.in-len4.len_at_least c.in-len4.len_below c.command-item-then-words-lt5.is c.as_str-in-len4.ensures.value c.request_of_four.ensures
