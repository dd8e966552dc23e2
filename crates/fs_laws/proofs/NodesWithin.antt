-- Edits of a node that leave it within its bounds.
use Rattle.std.proofs.Common.{◌≡◌, ℕ, ◌+◌, ◌-◌, ◌≤◌, ◌<◌, ◌==◌, Bool, true, false, cond, not, if◌then◌else◌, All, List, []}
use Rattle.std.proofs.Common.{◌∷◌, ◌++◌, length, take, drop, filter, refl, sym, subst, ap, ◌∙◌, arith, length-append}
use Rattle.std.proofs.Common.{length-take, length-drop}
use Rattle.std.proofs.Math.ListN.{length-replicate}
use Rattle.std.proofs.lemmas.List.Elements.{All-filter, All-push}
use Rattle.nfs3_types.specs.declared.attributes.Fattr.{Fattr}
use Rattle.nfs3_types.specs.declared.attributes.Sattr.{Sattr}
use Rattle.nfs3_types.specs.declared.file_type.FileType.{FileType}
use Rattle.nfs3_types.specs.declared.file_type.FileType.TheVariants.{Reg, Dir, Blk, Chr, Lnk, Sock, Fifo}
use Rattle.nfs3_types.specs.declared.moment.Moment.{Moment}
use Rattle.fs_rules.specs.Attributes.{apply_sattr, is_directory, is_file}
use Rattle.fs_rules.specs.Edits.{add_link, add_name, cuts_at, drop_link, drop_name, resized, set_attributes, set_ctime}
use Rattle.fs_rules.specs.Edits.{set_parent, set_size, touch, write_at, written, zeros}
use Rattle.fs_rules.specs.Limits.{longest_target, most_links, most_numbers, most_size}
use Rattle.fs_rules.specs.Names.{has_name}
use Rattle.fs_rules.specs.Sound.{IsDirectoryWithin, IsEntryName, IsFileWithin, IsLeaf, IsNodeWithin, IsOfKind, Rise}
use Rattle.fs_rules.specs.Tree.{Node}
use Rattle.fs_rules.specs.declared.name_entry.NameEntry.{NameEntry}

-- ---- kinds

pub directory_is : (k : FileType) → is_directory k ≡ true → k ≡ Dir
directory_is Reg e = absurd cc
directory_is Dir e = refl
directory_is Blk e = absurd cc
directory_is Chr e = absurd cc
directory_is Lnk e = absurd cc
directory_is Sock e = absurd cc
directory_is Fifo e = absurd cc

pub file_is : (k : FileType) → is_file k ≡ true → k ≡ Reg
file_is Reg e = refl
file_is Dir e = absurd cc
file_is Blk e = absurd cc
file_is Chr e = absurd cc
file_is Lnk e = absurd cc
file_is Sock e = absurd cc
file_is Fifo e = absurd cc

-- ---- cookies

-- one more name, with the next cookie
pub rise_more : (least next : ℕ) (names : List NameEntry) (name : List ℕ) (fileid : ℕ) → Rise least next names
    → Rise least (next + 1) (names ++ record { cookie = next; name = name; fileid = fileid } ∷ [])
unfolding Rise
rise_more least next [] name fileid h = (h, omega arith)
rise_more least next (e ∷ names) name fileid h = (h.0, rise_more (e.cookie + 1) next names name fileid h.1)

rise_lower : (low least next : ℕ) (names : List NameEntry) → low ≤ least → Rise least next names → Rise low next names
unfolding Rise
rise_lower low least next [] below h = omega arith
rise_lower low least next (e ∷ names) below h = (omega (arith, h.0), h.1)

rise_one : (keeps : Bool) (least next : ℕ) (e : NameEntry) (names : List NameEntry) → least ≤ e.cookie
    → Rise (e.cookie + 1) next names → Rise least next (cond keeps (e ∷ names) names)
unfolding Rise
rise_one true least next e names low h = (low, h)
rise_one false least next e names low h = rise_lower least (e.cookie + 1) next names (omega arith) h

pub rise_filter : (test : NameEntry → Bool) (least next : ℕ) (names : List NameEntry) → Rise least next names
    → Rise least next (filter test names)
unfolding Rise
rise_filter test least next [] h = h
rise_filter test least next (e ∷ names) h =
    rise_one (test e) least next e (filter test names) h.0 (rise_filter test (e.cookie + 1) next names h.1)

-- ---- edits that leave the content and the names

-- a node of the same kind, content and names, and with what else its kind bounds
record Alike (n m : Node) : Type 0 where
  kind : m.inode.kind ≡ n.inode.kind
  names : m.names ≡ n.names
  content : m.content ≡ n.content
  next : m.inode.next_cookie ≡ n.inode.next_cookie
  parent : m.inode.parent ≡ n.inode.parent
  verifier : m.inode.verifier ≡ n.inode.verifier

leaf_same : (n m : Node) → Alike n m → IsLeaf n → IsLeaf m
leaf_same n m s h = record { nothing = s.names ∙ h.nothing; parent = s.parent ∙ h.parent; cookie = s.next ∙ h.cookie }

kind_same : (k : FileType) (fileid : ℕ) (n m : Node) → Alike n m → IsOfKind k fileid n → IsOfKind k fileid m
kind_same Reg fileid n m s h = record {
  leaf = leaf_same n m s h.leaf;
  size = subst (λ (c : List ℕ). length c ≤ most_size) (sym s.content) h.size;
}
kind_same Dir fileid n m s h = record {
  empty = s.content ∙ h.empty;
  entries = record {
    own = subst (λ (l : List NameEntry). All (λ e. IsEntryName fileid e.name) l) (sym s.names) h.entries.own;
    cookies = subst (λ (l : List NameEntry). Rise 3 m.inode.next_cookie l) (sym s.names)
        (subst (λ (c : ℕ). Rise 3 c n.names) (sym s.next) h.entries.cookies);
  };
  most = subst (λ (c : ℕ). c ≤ most_numbers) (sym s.next) h.most;
  verifier = s.verifier ∙ h.verifier;
}
kind_same Blk fileid n m s h = absurd h
kind_same Chr fileid n m s h = absurd h
kind_same Lnk fileid n m s h = record {
  leaf = leaf_same n m s h.leaf;
  some = subst (λ (c : List ℕ). 1 ≤ length c) (sym s.content) h.some;
  short = subst (λ (c : List ℕ). length c ≤ longest_target) (sym s.content) h.short;
  verifier = s.verifier ∙ h.verifier;
}
kind_same Sock fileid n m s h = absurd h
kind_same Fifo fileid n m s h = absurd h

like : (fileid : ℕ) (n m : Node) → Alike n m → m.inode.mode < 4096 → m.inode.nlink ≤ most_links → m.inode.cuts < most_numbers
    → IsNodeWithin fileid n → IsNodeWithin fileid m
like fileid n m s mode links cuts h = record {
  kind = subst (λ (k : FileType). IsOfKind k fileid m) (sym s.kind) (kind_same n.inode.kind fileid n m s h.kind);
  mode = mode;
  links = links;
  cuts = cuts;
}

pub touch_within : (now : Moment) (fileid : ℕ) (n : Node) → IsNodeWithin fileid n → IsNodeWithin fileid (touch now n)
touch_within now fileid n h =
    like fileid n (touch now n) (record {
      kind = refl;
      names = refl;
      content = refl;
      next = refl;
      parent = refl;
      verifier = refl;
    })
    h.mode h.links h.cuts h

pub ctime_within : (now : Moment) (fileid : ℕ) (n : Node) → IsNodeWithin fileid n → IsNodeWithin fileid (set_ctime now n)
ctime_within now fileid n h =
    like fileid n (set_ctime now n) (record {
      kind = refl;
      names = refl;
      content = refl;
      next = refl;
      parent = refl;
      verifier =
          refl;
    })
    h.mode h.links h.cuts h

pub link_more_within : (fileid : ℕ) (n : Node) → n.inode.nlink < most_links → IsNodeWithin fileid n
    → IsNodeWithin fileid (add_link n)
link_more_within fileid n room h =
    like fileid n (add_link n) (record { kind = refl; names = refl; content = refl; next = refl; parent = refl; verifier = refl })
    h.mode (omega arith) h.cuts h

pub link_less_within : (fileid : ℕ) (n : Node) → IsNodeWithin fileid n → IsNodeWithin fileid (drop_link n)
link_less_within fileid n h =
    like fileid n (drop_link n) (record {
      kind = refl;
      names = refl;
      content = refl;
      next = refl;
      parent = refl;
      verifier = refl;
    })
    h.mode (omega (arith, h.links)) h.cuts h

pub attributes_within : (a : Fattr) (fileid : ℕ) (n : Node) → a.mode < 4096 → IsNodeWithin fileid n
    → IsNodeWithin fileid (set_attributes a n)
attributes_within a fileid n mode h =
    like fileid n (set_attributes a n) (record {
      kind = refl;
      names = refl;
      content = refl;
      next = refl;
      parent = refl;
      verifier
          = refl;
    })
    mode h.links h.cuts h

-- a directory in another one
pub parent_within : (parent fileid : ℕ) (n : Node) → n.inode.kind ≡ Dir → IsNodeWithin fileid n
    → IsNodeWithin fileid (set_parent parent n)
parent_within parent fileid n is h =
    let old : IsDirectoryWithin fileid n = subst (λ (k : FileType). IsOfKind k fileid n) is h.kind in
    let new : IsDirectoryWithin fileid (set_parent parent n) =
    record { empty = old.empty; entries = old.entries; most = old.most; verifier = old.verifier } in
    record {
      kind = subst (λ (k : FileType). IsOfKind k fileid (set_parent parent n)) (sym is) new;
      mode = h.mode;
      links = h.links;
      cuts = h.cuts;
    }

pub mode_within : (a : Fattr) (s : Sattr) (now : Moment) → (apply_sattr a s now).mode < 4096
unfolding apply_sattr
mode_within a s now = omega arith

-- ---- edits of names

leaf_without : (name : List ℕ) (n : Node) → IsLeaf n → IsLeaf (drop_name name n)
leaf_without name n h =
    record { nothing = ap (filter (λ e. not (has_name name e))) h.nothing; parent = h.parent; cookie = h.cookie }

without_kind : (k : FileType) (name : List ℕ) (fileid : ℕ) (n : Node) → IsOfKind k fileid n → IsOfKind k fileid (drop_name name n)
without_kind Reg name fileid n h = record { leaf = leaf_without name n h.leaf; size = h.size }
without_kind Dir name fileid n h = record {
  empty = h.empty;
  entries = record {
    own = All-filter (λ e. not (has_name name e)) (λ e. IsEntryName fileid e.name) n.names h.entries.own;
    cookies = rise_filter (λ e. not (has_name name e)) 3 n.inode.next_cookie n.names h.entries.cookies;
  };
  most = h.most;
  verifier = h.verifier;
}
without_kind Blk name fileid n h = absurd h
without_kind Chr name fileid n h = absurd h
without_kind Lnk name fileid n h =
    record { leaf = leaf_without name n h.leaf; some = h.some; short = h.short; verifier = h.verifier }
without_kind Sock name fileid n h = absurd h
without_kind Fifo name fileid n h = absurd h

pub drop_name_within : (name : List ℕ) (fileid : ℕ) (n : Node) → IsNodeWithin fileid n → IsNodeWithin fileid (drop_name name n)
drop_name_within name fileid n h =
    record { kind = without_kind n.inode.kind name fileid n h.kind; mode = h.mode; links = h.links; cuts = h.cuts }

named_more : (name : List ℕ) (target fileid : ℕ) (n : Node) → IsEntryName fileid name → n.inode.next_cookie < most_numbers
    → IsDirectoryWithin fileid n → IsDirectoryWithin fileid (add_name name target n)
named_more name target fileid n own left h = record {
  empty = h.empty;
  entries = record {
    own = All-push (λ e. IsEntryName fileid e.name) n.names (record {
      cookie = n.inode.next_cookie;
      name = name;
      fileid = target;
    })
        h.entries.own own;
    cookies = rise_more 3 n.inode.next_cookie n.names name target h.entries.cookies;
  };
  most = omega arith;
  verifier = h.verifier;
}

pub add_name_within : (name : List ℕ) (target fileid : ℕ) (n : Node) → n.inode.kind ≡ Dir → IsEntryName fileid name
    → n.inode.next_cookie < most_numbers → IsNodeWithin fileid n → IsNodeWithin fileid (add_name name target n)
add_name_within name target fileid n is own left h =
    let old : IsDirectoryWithin fileid n = subst (λ (k : FileType). IsOfKind k fileid n) is h.kind in
    record {
      kind = subst (λ (k : FileType). IsOfKind k fileid (add_name name target n)) (sym is)
          (named_more name target fileid n own left old);
      mode = h.mode;
      links = h.links;
      cuts = h.cuts;
    }

-- ---- edits of content

resized_length : (size : ℕ) (content : List ℕ) → length (resized size content) ≡ size
unfolding resized
resized_length size content =
    omega (
      arith,
      length-append (take size content) (zeros (size - length content)),
      length-take size content,
      length-replicate
          {A = ℕ} (size - length content) 0,
    )

-- a file that has this content
content_within : (content : List ℕ) (cuts fileid : ℕ) (n m : Node)
    → m ≡ record n { inode = record n.inode { cuts = cuts }; content = content }
    → n.inode.kind ≡ Reg → length content ≤ most_size → cuts < most_numbers → IsNodeWithin fileid n → IsNodeWithin fileid m
content_within content cuts fileid n m same is short few h =
    let old : IsFileWithin n = subst (λ (k : FileType). IsOfKind k fileid n) is h.kind in
    let new : Node = record n { inode = record n.inode { cuts = cuts }; content = content } in
    let leaf : IsLeaf new = record { nothing = old.leaf.nothing; parent = old.leaf.parent; cookie = old.leaf.cookie } in
    let file : IsFileWithin new = record { leaf = leaf; size = short } in
    let within : IsNodeWithin fileid new = record {
      kind = subst (λ (k : FileType). IsOfKind k fileid new) (sym is) file;
      mode = h.mode;
      links = h.links;
      cuts = few;
    } in
    subst (IsNodeWithin fileid) (sym same) within

pub set_size_within : (size fileid : ℕ) (n : Node) → n.inode.kind ≡ Reg → size ≤ most_size → cuts_at size n < most_numbers
    → IsNodeWithin fileid n → IsNodeWithin fileid (set_size size n)
unfolding set_size
set_size_within size fileid n is short few h =
    content_within (resized size n.content) (cuts_at size n) fileid n _ refl is (omega (arith, resized_length size n.content))
    few h

written_length : (offset : ℕ) (bytes content : List ℕ) → offset + length bytes ≤ most_size → length content ≤ most_size
    → length (written offset bytes content) ≤ most_size
unfolding written
written_length offset bytes content end old =
    omega (
      arith,
      length-append (resized offset content) (bytes ++ drop (offset + length bytes) content),
      resized_length offset
          content,
      length-append bytes (drop (offset + length bytes) content),
      length-drop (offset + length bytes) content,
    )

written_within : (offset : ℕ) (bytes : List ℕ) (fileid : ℕ) (n : Node) → n.inode.kind ≡ Reg → offset + length bytes ≤ most_size
    → IsNodeWithin fileid n → IsNodeWithin fileid (record n { content = written offset bytes n.content })
written_within offset bytes fileid n is end h =
    let old : IsFileWithin n = subst (λ (k : FileType). IsOfKind k fileid n) is h.kind in
    content_within (written offset bytes n.content) n.inode.cuts fileid n _ refl is
    (written_length offset bytes n.content end old.size) h.cuts h

write_by : (nothing : Bool) (offset : ℕ) (bytes : List ℕ) (now : Moment) (fileid : ℕ) (n : Node) → n.inode.kind ≡ Reg
    → (nothing ≡ false → offset + length bytes ≤ most_size) → IsNodeWithin fileid n
    → IsNodeWithin fileid (if nothing then n else touch now (record n { content = written offset bytes n.content }))
write_by true offset bytes now fileid n is end h = h
write_by false offset bytes now fileid n is end h =
    touch_within now fileid (record n { content = written offset bytes n.content })
    (written_within offset bytes fileid n is (end refl) h)

pub write_at_within : (offset : ℕ) (bytes : List ℕ) (now : Moment) (fileid : ℕ) (n : Node) → n.inode.kind ≡ Reg
    → ((length bytes == 0) ≡ false → offset + length bytes ≤ most_size) → IsNodeWithin fileid n
    → IsNodeWithin fileid (write_at offset bytes now n)
write_at_within offset bytes now fileid n is end h = write_by (length bytes == 0) offset bytes now fileid n is end h
