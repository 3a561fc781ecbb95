use Rattle.std.proofs.Common.{◌∙◌}
use Rattle.puts.specs.Strings.{block-laid, rows-from}
use Rattle.puts.proofs.strings.put_strings.Goals as goal

pub returns : goal.returns
returns c = block-laid (c.strings_from.ensures ∙ rows-from c.requires _) c.put_v64-ends.ensures c.put_ends-bytes.ensures c.put_string_bytes.ensures
