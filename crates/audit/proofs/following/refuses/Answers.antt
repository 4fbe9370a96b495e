use Rattle.audit.proofs.Cutting.{told, not_memory}
use Rattle.audit.proofs.following.refuses.Goals as goal

pub returns : goal.returns
returns c = (c.is.ensures, told c.args.made c.requires (not_memory c.args.made c.is_memory.result c.is_memory.ensures c.if-is_memory.false))
