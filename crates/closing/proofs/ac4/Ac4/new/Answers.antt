-- `new` fills each table with zeros.
use borrow.Author.Rules.{rules}
use Rattle.masks.specs.Sets.{get_d_zeros}
use Rattle.limits.specs.Limits.{counter_words, support_words}
use Rattle.closing.proofs.ac4.Ac4.new.Goals as goal

pub returns : goal.returns
returns c = record {
  long-support = search rules;
  long_counter = search rules;
  long-copy = search rules;
  places = search rules;
  no_support = get_d_zeros support_words;
  no_count = get_d_zeros counter_words;
}
