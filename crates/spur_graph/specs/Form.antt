-- A command as the grammar sees it, with names as their bytes: two names are one where their bytes are the same.
use Rattle.std.specs.Prelude.{ℕ, ℤ, Bool}
use Rattle.spur_graph.specs.Bytes.{Text}
use Rattle.spur_graph.specs.declared.command.Command.{Command}
use Rattle.spur_graph.specs.declared.command.Command.TheVariants as commands

pub data Form : Type 0 where
  Special : Text → Form
  Nil : Text → Form
  Yes : Text → Form
  No : Text → Form
  Int : Text → ℤ → Form
  Char : Text → ℕ → Form
  Float : Text → ℕ → Form
  Copy : Text → Text → Form
  Drop : Text → Form
  Kind : Text → Form
  Class : Text → Text → Form
  Size : Text → Form
  Hash : Text → Form
  Fetch : Text → Text → ℕ → Form
  Store : Text → ℕ → Text → Form
  Unit : Text → ℕ → Form
  SetUnit : Text → ℕ → ℕ → Form
  Same : Text → Text → Form
  New : Text → Text → ℕ → Form
  NewOld : Text → Text → ℕ → Form
  Enter : Text → Form
  Become : Text → Text → Form
  Forward : Text → Text → Bool → Form
  Pin : Text → Form
  Unpin : Text → Form
  ReadOnly : Text → Form
  Writable : Text → Form
  Scavenge : Form
  Gc : Form
  Mourn : Text → Form
  SegStore : Text → Text → Text → Text → Form
  SegLoad : Text → Text → Text → Form
  Save : Text → Form
  Stat : Form

-- what the machine sees of a command
abbrev pub view : Command → Form
view (commands.Special h) = Special h.bytes
view (commands.Nil h) = Nil h.bytes
view (commands.Yes h) = Yes h.bytes
view (commands.No h) = No h.bytes
view (commands.Int h n) = Int h.bytes n
view (commands.Char h n) = Char h.bytes n
view (commands.Float h word) = Float h.bytes word
view (commands.Copy h o) = Copy h.bytes o.bytes
view (commands.Drop h) = Drop h.bytes
view (commands.Kind o) = Kind o.bytes
view (commands.Class h o) = Class h.bytes o.bytes
view (commands.Size o) = Size o.bytes
view (commands.Hash o) = Hash o.bytes
view (commands.Fetch h o i) = Fetch h.bytes o.bytes i
view (commands.Store o i v) = Store o.bytes i v.bytes
view (commands.Unit o i) = Unit o.bytes i
view (commands.SetUnit o i n) = SetUnit o.bytes i n
view (commands.Same a b) = Same a.bytes b.bytes
view (commands.New h c n) = New h.bytes c.bytes n
view (commands.NewOld h c n) = NewOld h.bytes c.bytes n
view (commands.Enter c) = Enter c.bytes
view (commands.Become a b) = Become a.bytes b.bytes
view (commands.Forward a b hash) = Forward a.bytes b.bytes hash
view (commands.Pin o) = Pin o.bytes
view (commands.Unpin o) = Unpin o.bytes
view (commands.ReadOnly o) = ReadOnly o.bytes
view (commands.Writable o) = Writable o.bytes
view commands.Scavenge = Scavenge
view commands.Gc = Gc
view (commands.Mourn h) = Mourn h.bytes
view (commands.SegStore h o c name) = SegStore h.bytes o.bytes c.bytes name.bytes
view (commands.SegLoad h a name) = SegLoad h.bytes a.bytes name.bytes
view (commands.Save name) = Save name.bytes
view commands.Stat = Stat
