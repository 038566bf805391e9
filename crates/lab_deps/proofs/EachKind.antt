-- What is so of each kind of dependency, or of each of a fault at an operation, is so of all.
use Rattle.lab_deps.specs.declared.edge.Kind.{Kind, TheVariants.{Write, ItemRead, PredicateRead, ItemAnti, PredicateAnti}}
use Rattle.lab_deps.specs.declared.kind.OpFault.{OpFault}
use Rattle.lab_deps.specs.declared.kind.OpFault.TheVariants as fault

pub each_kind : (P : Kind → Type 0) → P Write → P ItemRead → P PredicateRead → P ItemAnti → P PredicateAnti → (kind : Kind) → P kind
each_kind P write item_read predicate_read item_anti predicate_anti Write = write
each_kind P write item_read predicate_read item_anti predicate_anti ItemRead = item_read
each_kind P write item_read predicate_read item_anti predicate_anti PredicateRead = predicate_read
each_kind P write item_read predicate_read item_anti predicate_anti ItemAnti = item_anti
each_kind P write item_read predicate_read item_anti predicate_anti PredicateAnti = predicate_anti

pub each_op_fault : (P : OpFault → Type 0) → P fault.Dangling → P fault.AbortedRead → P fault.IntermediateRead → P fault.OwnWriteMissed → P fault.LaterThanOwn → P fault.RowsDiffer → P fault.WritesDiffer → (kind : OpFault) → P kind
each_op_fault P dangling aborted intermediate own later rows writes fault.Dangling = dangling
each_op_fault P dangling aborted intermediate own later rows writes fault.AbortedRead = aborted
each_op_fault P dangling aborted intermediate own later rows writes fault.IntermediateRead = intermediate
each_op_fault P dangling aborted intermediate own later rows writes fault.OwnWriteMissed = own
each_op_fault P dangling aborted intermediate own later rows writes fault.LaterThanOwn = later
each_op_fault P dangling aborted intermediate own later rows writes fault.RowsDiffer = rows
each_op_fault P dangling aborted intermediate own later rows writes fault.WritesDiffer = writes
