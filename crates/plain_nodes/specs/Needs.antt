-- What a node needs for an edit, so that each of its counts is still a number of its width.
use Rattle.std.specs.Prelude.{◌≡◌, ℕ, ◌+◌, ◌≤◌, ◌<◌, ◌^◌, ◌&&◌, nat_le, nat_lt, false, length, Option}
use Rattle.fs_rules.specs.declared.inode.Inode.{Inode}
use Rattle.fs_rules.specs.Attributes.{given}
use Rattle.fs_rules.specs.Limits.{most_numbers}
use Rattle.fs_rules.specs.Making.{lacks_cookies}
use Rattle.fs_rules.specs.Tree.{Node}

-- the size that is given, if any, is no cut of the node, or leaves room for a further cut
abbrev pub HasCuts : Option ℕ → Node → Type 0
HasCuts size n = given size (λ size. nat_lt size (length n.content) && nat_le most_numbers (n.inode.cuts + 1)) ≡ false

-- a further link
abbrev pub HasLink : Inode → Type 0
HasLink i = i.nlink + 1 < 2 ^ 32

-- the directory has a cookie for a further name, and room for it among so many
abbrev pub HasRoom : ℕ → Node → Type 0
HasRoom most n = (lacks_cookies n.inode ≡ false) × (length n.names + 1 ≤ most)
