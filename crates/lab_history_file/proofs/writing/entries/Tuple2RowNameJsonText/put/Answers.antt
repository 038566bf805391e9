use Rattle.std.proofs.Common.{◌≡◌, Some}
use Rattle.lab_history_file.proofs.WrittenMembers.{pair_stands}
use Rattle.lab_history_file.proofs.writing.entries.Tuple2RowNameJsonText.put.Goals as goal

pub returns-clause-file : goal.returns-clause-file
returns-clause-file g c = pair_stands (λ d x. g.P.Part.part_in d ≡ Some x) g.P.Part.part_tree c.args.self.now c.in_ok-put_key.ensures.read c.in_ok-put_part.ensures.read
