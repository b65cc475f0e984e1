-- The number of each refusal: those of document 01's table "What a call gives back", and those that 02 adds to it. Assumes nothing.
use Rattle.std.specs.Prelude.{ℕ}
use Rattle.refusal.specs.declared.Refusal.{Refusal}
use Rattle.refusal.specs.declared.Refusal.TheVariants.{Index, NotFound, Disconnected, OutOfMemory, Pending, Refs, Credits, Setup, Packet, Space, Header, Record, Ask, Held, Life, Unreferenced, Columns, Pairs, Values}

abbrev pub number_of : Refusal → ℕ
number_of Index = 1
number_of NotFound = 2
number_of Disconnected = 3
number_of OutOfMemory = 4
number_of Pending = 5
number_of Refs = 6
number_of Credits = 7
number_of Setup = 8
number_of Packet = 9
number_of Space = 10
number_of Header = 11
number_of Record = 12
number_of Ask = 13
number_of Held = 14
number_of Life = 15
number_of Unreferenced = 16
number_of Columns = 21
number_of Pairs = 22
number_of Values = 23
