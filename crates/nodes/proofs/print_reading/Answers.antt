-- So many nodes as reading counts stand in the table.
use Rattle.reader.proofs.Promised.{counted}
use Rattle.nodes.proofs.print_reading.Goals as goal

pub print_nodes-requires : goal.print_nodes-requires
print_nodes-requires g c = counted _ _ _ _ c.in-Ok.ensures
