-- Procedures that may have to wait for a sweep.
use Rattle.std.proofs.Common.{◌≡◌, ◌∙◌, ℕ, ◌+◌, ◌<◌, ◌≤◌, ◌^◌, length, Option, Some, Result, Ok, Err, sym, subst, arith}
use Rattle.nfs3_types.specs.declared.body.Body.{Body}
use Rattle.pairs.specs.declared.at.At.TheVariants.{Live}
use Rattle.pairs.specs.Versions.{Versions}
use Rattle.pairs.specs.Told.{PairsTold, Goes, Tells}
use Rattle.fs_rules.specs.Checks.{Check, Done, Row}
use Rattle.fs_rules.specs.Places.{Object}
use Rattle.fs_rules.specs.Sound.{IsSound}
use Rattle.fs_rules.specs.Tree.{Tree, Node}
use Rattle.fs_keys.specs.declared.key_parts.KeyParts.TheVariants.{Inode as InodeKey}
use Rattle.fs_shows.specs.declared.halt.Halt.{Halt}
use Rattle.fs_shows.specs.declared.halt.Halt.TheVariants.{Refused, Fault}
use Rattle.pair_types.specs.declared.fault.PairFault.TheVariants.{Odd, HeightFull, Page}
use Rattle.fs_shows.specs.Extents.{row as value_of_row}
use Rattle.fs_shows.specs.Shows.{Shows}
use Rattle.fs_shows.specs.Steps.{Reads}
use Rattle.fs_shows.proofs.Doing.{goes-then, goes-most}
use Rattle.fs_shows.proofs.InodeEdits.{node-held}
use Rattle.procs_object.specs.declared.object.Found.{Found}
use Rattle.procs_object.specs.Finding.{IsObject, CheckedOn}
use Rattle.procs_object.specs.Performing.{Performs}
use Rattle.file_ops.specs.Given.{IsFile}
use Rattle.file_ops.specs.Sizes.{Waits}
use Rattle.file_ops.proofs.Ranged.{file-size}
use Rattle.procs_bytes.specs.declared.stop.Stop.{Stop}
use Rattle.procs_bytes.specs.declared.stop.Stop.TheVariants.{Halted, SweepFirst}
use Rattle.procs_bytes.specs.Waiting.{PerformsOrWaits}

-- the row gives a live file this size
pub record Resizes (id size : ℕ) (row : Row) (t : Tree) : Type 0 where
  pub done : Done
  pub is : row ≡ Ok done
  pub before : Node
  pub was : t.nodes id ≡ Some before
  pub file : IsFile before
  pub after : Node
  pub becomes : done.tree.nodes id ≡ Some after
  pub long : length after.content ≡ size

-- a size that waits is smaller than the file
falls-so : (v : Versions) (t : Tree) (id size : ℕ) (n : Node) → id < 2 ^ 64 → Shows v t → Waits id size v → t.nodes id ≡ Some n
    → IsFile n → size < length n.content
falls-so v t id size n fits shows waits was file =
    let h = node-held v Live id (value_of_row v Live (InodeKey id)) waits.inode (t.nodes id) waits.said
    (shows.live.inodes id fits) in
    let same : h.0 ≡ n = one h.0 n (t.nodes id) h.1 was in
    let long : waits.inode.head.size ≡ length n.content =
    subst (λ (m : Node). waits.inode.head.size ≡ length m.content) same
    (h.2.size ∙ file-size h.0 (subst IsFile (sym same) file) (length h.0.content)) in
    subst (λ (s : ℕ). size < s) long waits.falls
  where
    one : (m n : Node) (o : Option Node) → o ≡ Some m → o ≡ Some n → m ≡ n
    one m n o p q = cc

at-least : (m n : ℕ) → 1 ≤ m → m ≤ n → 1 ≤ n
at-least m n some more = omega (arith, some, more)

-- what ends any procedure
abbrev pub stopped : Result Body Halt → Result Body Stop
stopped (Ok body) = Ok body
stopped (Err halt) = Err (Halted halt)

module _ {S W : Type 0} (told : PairsTold S W) where
  pub no-wait : (old new : S) (most : ℕ) (row : Tree → Row) (r : Result Body Halt) → Performs told old new most row r
      → PerformsOrWaits told old new most row (stopped r)
  no-wait old new most row (Ok body) p = record { goes = p.goes; ends = p.ends }
  no-wait old new most row (Err halt) p = record { goes = p.goes; ends = p.ends }

  -- more puts
  pub performs-more : (old new : S) (m n : ℕ) (row : Tree → Row) (r : Result Body Halt) → m ≤ n → Performs told old new m row r
      → Performs told old new n row r
  performs-more old new m n row (Ok body) more p = record { goes = goes-most told old new m n more p.goes; ends = p.ends }
  performs-more old new m n row (Err (Refused status)) more p = record {
    goes = goes-most told old new m n more p.goes;
    ends = p.ends;
  }
  performs-more old new m n row (Err (Fault Odd)) more p = record {
    goes = goes-most told old new m n more p.goes;
    ends = p.ends;
  }
  performs-more old new m n row (Err (Fault HeightFull)) more p = record {
    goes = goes-most told old new m n more p.goes;
    ends = (at-least m n p.ends.0 more, p.ends.1, p.ends.2);
  }
  performs-more old new m n row (Err (Fault (Page fault))) more p = record {
    goes = goes-most told old new m n more p.goes;
    ends = p.ends;
  }

  -- by what was learned the row gives the file a size that waits for a sweep
  pub held-up-by : (old mid new : S) (m n : ℕ) (row : Tree → Row) (Q : Tree → Type 0) (id size : ℕ) → id < 2 ^ 64
      → Goes told old mid m → Goes told mid new n → Reads told old mid IsSound Q → ((t : Tree) → Q t → Resizes id size (row t) t)
      → Tells told mid new (Waits id size) → PerformsOrWaits told old new (m + n) row (Err (SweepFirst id))
  held-up-by old mid new m n row Q id size fits before goes reads says waits = record {
    goes = goes-then told old mid new m n before goes;
    ends = λ w t agrees lies sound.
        let a = goes.agreed w agrees in
        let still = reads.stays w t a lies tt in
        let r = says t (reads.learns w t a lies sound) in
        let so = waits.finds w still.versions agrees still.shown still.shows.lives in
        record {
          shrinks = record {
            done = r.done;
            is = r.is;
            before = r.before;
            was = r.was;
            after = r.after;
            becomes = r.becomes;
            falls = subst (λ (s : ℕ). s < length r.before.content) (sym r.long)
                (falls-so still.versions t id size r.before fits still.shows so r.was r.file);
          };
          versions = still.versions;
          shown = waits.shows w still.versions agrees still.shown;
          shows = still.shows;
          waits = subst (λ (s : ℕ). Waits id s still.versions) (sym r.long) so;
        };
  }

  -- the size of what a handle leads to waits for a sweep
  pub held-up : (old mid new : S) (m n : ℕ) (row : Tree → Row) (check : Tree → Check Object) (x : Found) (id size : ℕ)
      → id < 2 ^ 64 → Goes told old mid m → Goes told mid new n → CheckedOn told old mid IsSound IsObject check (Ok x)
      → ((t : Tree) (o : Object) → check t ≡ Ok o → IsObject t x o → Resizes id size (row t) t)
      → Tells told mid new (Waits id size) → PerformsOrWaits told old new (m + n) row (Err (SweepFirst id))
  held-up old mid new m n row check x id size fits before goes checked says waits =
      held-up-by old mid new m n row (λ t. (o : Object) × (check t ≡ Ok o) × IsObject t x o) id size fits before goes checked
      (λ t found. says t found.0 found.1 found.2) waits
