-- Where a program has the functions of this crate, and what they call of other crates, it has the code of each public one. Made by
-- tools/routines, for crates/routines. Assumes nothing.
use mathlib.Core.Bool.{true}
use prog.Linked.{Tree, World, Holds, in_world}
use prog.LinkedThreads.{HasT}
use Rattle.search.proofs.TheLink as link
use Rattle.search.proofs.begin.Symbol as begin
use Rattle.search.proofs.see.Symbol as see
use Rattle.search.proofs.end.Symbol as end
use Rattle.search.proofs.find.Symbol as find
use Rattle.search.proofs.locate.Symbol as locate
use Rattle.search.proofs.is_well_formed.Symbol as is_well_formed

abbrev pub functions : Tree
functions = link.table

abbrev pub Below : World → Type 0
Below W = link.Below W

pub linked-begin : (W : World) → Holds W "search" functions → Below W → HasT (in_world W) true begin.code
linked-begin W h b = link.linked-search::begin W h b

pub linked-see : (W : World) → Holds W "search" functions → Below W → HasT (in_world W) true see.code
linked-see W h b = link.linked-search::see W h b

pub linked-end : (W : World) → Holds W "search" functions → Below W → HasT (in_world W) true end.code
linked-end W h b = link.linked-search::end W h b

pub linked-find : (W : World) → Holds W "search" functions → Below W → HasT (in_world W) true find.code
linked-find W h b = link.linked-search::find W h b

pub linked-locate : (W : World) → Holds W "search" functions → Below W → HasT (in_world W) true locate.code
linked-locate W h b = link.linked-search::locate W h b

pub linked-is_well_formed : (W : World) → Holds W "search" functions → Below W → HasT (in_world W) true is_well_formed.code
linked-is_well_formed W h b = link.linked-search::is_well_formed W h b
