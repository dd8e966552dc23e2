-- What follows the key of a snapshot's number says which snapshot follows the number.
use Rattle.std.proofs.Common.{◌≡◌, ◌≢◌, ℕ, ◌+◌, ◌<◌, ◌≤◌, ◌^◌, ◌==◌, Bool, true, false, if◌then◌else◌, List, [], ◌∷◌}
use Rattle.std.proofs.Common.{length, Option, Some, None, ◌⊎◌, inl, inr, refl, sym, ◌∙◌, ap, subst, arith}
use Rattle.std.proofs.lemmas.Bool.{cases_order, ltb-false}
use Rattle.std.specs.Prelude.{find, map, nat_lt, option_map, option_and_then, IfSome}
use Rattle.byteorder.specs.Endian.{big_bytes}
use Rattle.xdr_grammar.specs.Laws.{AreBytes}
use Rattle.pair_types.specs.declared.fault.PairFault.{PairFault}
use Rattle.pair_types.specs.declared.fault.PairFault.TheVariants.{Odd, HeightFull, Page}
use Rattle.pairs.specs.declared.at.At.TheVariants.{Live}
use Rattle.pairs.specs.Found.{IsBefore, IsNext, Follows}
use Rattle.pairs.specs.Lives.{Life, seen}
use Rattle.pairs.specs.Told.{PairsTold, Tells}
use Rattle.pairs.specs.Versions.{Versions, value_at}
use Rattle.fs_rules.specs.declared.name_entry.NameEntry.{NameEntry}
use Rattle.fs_rules.specs.Limits.{last_epoch, longest_name}
use Rattle.nfs3_types.specs.declared.status.Status.TheVariants.{Inval, NameTooLong}
use Rattle.fs_rules.specs.Names.{name_fault}
use Rattle.fs_rules.specs.Places.{snapshot_entry}
use Rattle.fs_rules.specs.Sound.{IsSound, IsEntryName, Rise}
use Rattle.fs_rules.specs.Tree.{Tree}
use Rattle.fs_keys.specs.declared.key_parts.KeyParts.TheVariants.{First, Lane, Snapshot, Inode, Name, Cookie, Extent, Stale}
use Rattle.fs_keys.specs.declared.key_parts.KeyParts.TheVariants.{Times}
use Rattle.fs_keys.specs.Keys.{Parts, HasBounds, key_of, parts_of, only, first_number}
use Rattle.fs_keys.proofs.KeyLaws.{said-found, said-bounds}
use Rattle.fs_shows.specs.Extents.{row}
use Rattle.fs_shows.specs.Nodes.{numbered}
use Rattle.fs_shows.specs.Shows.{Shows}
use Rattle.fs_shows.specs.Steps.{Reads, GivesUpOn}
use Rattle.fs_shows.proofs.Doing.{does-tell, reads-of, up-odd}
use Rattle.fs_shows.proofs.NameLists.{rise-below}
use Rattle.fs_shows.proofs.Viewing.{find-all}
use Rattle.dir_ops.specs.Listing.{next_entry}
use Rattle.dir_ops.proofs.Cookies.{behind-common, cookie-order, order-cookie, between, numbered-cookie, next-numbered, next-least}
use Rattle.snap_ops.specs.Listing.{number_of, number_at, entry_by, SaysNext, IsBeyond, NextFault}
use Rattle.snap_ops.proofs.Entries.{names-held, cookies-tell}

-- ---- keys of snapshots, in order

abbrev stem : List ℕ
stem = 6 ∷ big_bytes 8 0

-- a lower number has an earlier key
snapshot-order : (a b : ℕ) → a < b → b < 2 ^ 64 → IsBefore (key_of (Snapshot a)) (key_of (Snapshot b))
snapshot-order a b less fits =
    behind-common (3 ∷ []) (big_bytes 8 a) (big_bytes 8 b)
    ∙ sym (behind-common stem (big_bytes 8 a) (big_bytes 8 b))
    ∙ cookie-order 0 a b less fits

-- and an earlier key a lower number
order-snapshot : (a b : ℕ) → a < 2 ^ 64 → b < 2 ^ 64 → IsBefore (key_of (Snapshot a)) (key_of (Snapshot b)) → a < b
order-snapshot a b fits fits' before =
    order-cookie 0 a b fits fits'
    (behind-common stem (big_bytes 8 a) (big_bytes 8 b)
    ∙ sym (behind-common (3 ∷ []) (big_bytes 8 a) (big_bytes 8 b))
    ∙ before)

-- parts that say a number are not nothing
says-number : (u : Bool) (p : Parts) (n : ℕ) → number_of p ≡ Some n → (only u p ≡ None → ⊥)
    → option_and_then number_of (only u p) ≡ None → ⊥
says-number false p n is within none = within refl
says-number true p n is within none = differs (sym is ∙ none)
  where
    differs : Some n ≡ None → ⊥
    differs e = cc

-- a key of the table that begins so is a snapshot's
front-says : (rest : List ℕ) → (parts_of (3 ∷ rest) ≡ None → ⊥) → number_at (3 ∷ rest) ≡ None → ⊥
front-says rest within none =
    says-number (length rest == 8) (Snapshot (first_number rest)) (first_number rest) refl within none

seen-lives : (ls : List Life) (value : List ℕ) → seen Live ls ≡ Some value → ls ≢ []
seen-lives ls value is none = differs (ap (seen Live) (sym none) ∙ is)
  where
    differs : None ≡ Some value → ⊥
    differs e = cc

entry-same : (f : NameEntry) (number : ℕ) (name : List ℕ) → f.cookie ≡ number + 2 → f.cookie ≡ f.fileid + 2 → f.name ≡ name
    → f ≡ entry_by number name
entry-same f number name cookie tells own =
    let same : f.fileid ≡ number = omega (arith, cookie, tells) in
    ap (λ (k : ℕ). record { cookie = k; name = f.name; fileid = f.fileid }) cookie
    ∙ ap (λ (n : List ℕ). record { cookie = number + 2; name = n; fileid = f.fileid }) own
    ∙ ap (λ (k : ℕ). record { cookie = number + 2; name = name; fileid = k }) same

-- a good name is short enough
fault-short : (name : List ℕ) → name_fault name ≡ None → length name ≤ 255
unfolding name_fault longest_name
fault-short name good = by_test _ (nat_lt 255 (length name)) refl good
  where
    by_test : (bad long : Bool) → nat_lt 255 (length name) ≡ long
        → (if bad then Some Inval else (if long then Some NameTooLong else None)) ≡ None → length name ≤ 255
    by_test true long is good = absurd (cc)
    by_test false true is good = absurd (cc)
    by_test false false is good = ltb-false 255 (length name) is

module _ (v : Versions) (t : Tree) (number : ℕ) (fits : number < 2 ^ 64) (shows : Shows v t) (sound : IsSound t) where
  abbrev entries : List NameEntry
  entries = map snapshot_entry t.snapshots

  rises : Rise 3 (t.epoch + 2) entries
  rises = sound.bounds.snapshots.entries.cookies

  tells : (test : NameEntry → Bool) (e : NameEntry) → find test entries ≡ Some e
      → e.cookie ≡ e.fileid + 2
  tells test e is = (find-all test (λ (e : NameEntry). e.cookie ≡ e.fileid + 2) entries e (cookies-tell t.snapshots) is).0

  -- what the row of a number holds, where an entry has its cookie
  held : (e : NameEntry) → e.cookie ≡ e.fileid + 2 → e.fileid < 2 ^ 64 → numbered e.cookie entries ≡ Some e
      → row v Live (Snapshot e.fileid) ≡ Some e.name
  held e cookie less is =
      names-held v t shows e.fileid less
      ∙ ap (λ (c : ℕ). option_map (λ (f : NameEntry). f.name) (numbered c entries)) (sym cookie)
      ∙ ap (option_map (λ (f : NameEntry). f.name)) is

  there : (e : NameEntry) → e.cookie ≡ e.fileid + 2 → e.fileid < 2 ^ 64 → numbered e.cookie entries ≡ Some e
      → row v Live (Snapshot e.fileid) ≡ None → ⊥
  there e cookie less is none = differs (sym none ∙ held e cookie less is)
    where
      differs : None ≡ Some e.name → ⊥
      differs e = cc

  -- the next entry, as a snapshot
  record Next (e : NameEntry) : Type 0 where
    cookie : e.cookie ≡ e.fileid + 2
    low : e.fileid < 2 ^ 64
    behind : number < e.fileid
    has : numbered e.cookie entries ≡ Some e

  next-is : (e : NameEntry) → next_entry (number + 2) entries ≡ Some e → Next e
  unfolding last_epoch
  next-is e is =
      let n = next-numbered (number + 2) entries e is in
      let cookie : e.cookie ≡ e.fileid + 2 = tells (λ (e : NameEntry). nat_lt (number + 2) e.cookie) e is in
      let below : e.cookie < t.epoch + 2 =
      (find-all (λ (e : NameEntry). nat_lt (number + 2) e.cookie) (λ (e : NameEntry). e.cookie < t.epoch + 2) entries e
      (rise-below 3 (t.epoch + 2) entries rises) is).0 in
      let most : t.epoch ≤ last_epoch = sound.bounds.epoch in
      record {
        cookie = cookie;
        low = omega (arith, below, cookie, most);
        behind = omega (arith, n.0, cookie);
        has = n.1;
      }

  behind-key : (e : NameEntry) → Next e → IsBefore (key_of (Snapshot number)) (key_of (Snapshot e.fileid))
  behind-key e n = snapshot-order number e.fileid n.behind n.low

  pub none-follows : Follows Live (key_of (Snapshot number)) None v → next_entry (number + 2) entries ≡ None
  none-follows follows = by_next (next_entry (number + 2) entries) refl
    where
      by_next : (o : Option NameEntry) → next_entry (number + 2) entries ≡ o → o ≡ None
      by_next None is = refl
      by_next (Some e) is =
          let n = next-is e is in
          absurd (there e n.cookie n.low n.has (follows (key_of (Snapshot e.fileid)) (behind-key e n)))

  module _ (key value : List ℕ) (is-next : IsNext Live (key_of (Snapshot number)) key value v) where
    -- no entry lies between
    not-before : (e : NameEntry) → Next e → IsBefore (key_of (Snapshot e.fileid)) key → ⊥
    not-before e n before =
        there e n.cookie n.low n.has (is-next.first (key_of (Snapshot e.fileid)) (behind-key e n) before)

    in-table : (rest : List ℕ) → key ≡ 3 ∷ rest → number_at key ≡ None → ⊥
    in-table rest front none =
        front-says rest
        (λ outside. seen-lives (v.lives key) value is-next.has (shows.within.table key (ap parts_of front ∙ outside)))
        (ap number_at (sym front) ∙ none)

    pub other-follows : number_at key ≡ None → next_entry (number + 2) entries ≡ None
    other-follows none = by_next (next_entry (number + 2) entries) refl
      where
        by_next : (o : Option NameEntry) → next_entry (number + 2) entries ≡ o → o ≡ None
        by_next None is = refl
        by_next (Some e) is =
            let n = next-is e is in
            let r = between (3 ∷ []) (big_bytes 8 number) (big_bytes 8 e.fileid) key is-next.behind (not-before e n) in
            absurd (in-table r.0 r.1 none)

    -- what the record that follows holds, as a snapshot's
    own-row : (n : ℕ) → key ≡ key_of (Snapshot n) → row v Live (Snapshot n) ≡ Some value
    own-row n own = ap (value_at Live v) (sym own) ∙ is-next.has

    pub entry-follows : (e : NameEntry) → key ≡ key_of (Snapshot e.fileid) → e.fileid < 2 ^ 64 → e ≡ entry_by e.fileid value
        → next_entry (number + 2) entries ≡ Some e
    unfolding numbered
    entry-follows e own low is-entry =
        let h = said-entry (numbered (e.fileid + 2) entries) refl
        (sym (names-held v t shows e.fileid low) ∙ own-row e.fileid own) in
        let less : number < e.fileid = order-snapshot number e.fileid fits low (subst (IsBefore (key_of (Snapshot number))) own
        is-next.behind) in
        let n = next-least (number + 2) 3 (t.epoch + 2) (e.fileid + 2) entries e rises h (omega (arith, less)) in
        by_order n.0 n.1 n.2 h (cases_order n.0.cookie (e.fileid + 2))
      where
        said-entry : (o : Option NameEntry) → numbered (e.fileid + 2) entries ≡ o
            → option_map (λ (f : NameEntry). f.name) o ≡ Some value → numbered (e.fileid + 2) entries ≡ Some e
        said-entry None is says = absurd (cc)
        said-entry (Some f) is says =
            let name : f.name ≡ value = one f.name says in
            let same : f ≡ entry_by e.fileid value =
            entry-same f e.fileid value (numbered-cookie (e.fileid + 2) entries f is) (numbered-tells (e.fileid + 2) f is) name in
            is ∙ ap (λ (x : NameEntry). Some x) (same ∙ sym is-entry)
          where
            one : (x : List ℕ) → Some x ≡ Some value → x ≡ value
            one x e = cc

            numbered-tells : (cookie : ℕ) (f : NameEntry) → numbered cookie entries ≡ Some f → f.cookie ≡ f.fileid + 2
            numbered-tells cookie f is = tells (λ (e : NameEntry). e.cookie == cookie) f is

        by_order : (n : NameEntry) → next_entry (number + 2) entries ≡ Some n → n.cookie ≤ e.fileid + 2
            → numbered (e.fileid + 2) entries ≡ Some e
            → (n.cookie ≡ e.fileid + 2) ⊎ ((n.cookie < e.fileid + 2) ⊎ (e.fileid + 2 < n.cookie))
            → next_entry (number + 2) entries ≡ Some e
        by_order n is most h (inl same) =
            let m = (next-is n is).has in
            is ∙ sym (subst (λ (k : ℕ). numbered k entries ≡ Some n) same m) ∙ h
        by_order n is most h (inr (inl less)) =
            let x = next-is n is in
            let c = x.cookie in
            absurd (not-before n x (subst (IsBefore (key_of (Snapshot n.fileid))) (sym own)
            (snapshot-order n.fileid e.fileid (omega (arith, less, c)) low)))
        by_order n is most h (inr (inr more)) = absurd (omega (arith, most, more))

    -- the record is of a snapshot, whose number and name have their bounds
    pub not-beyond : IsBeyond key value → ⊥
    unfolding numbered last_epoch
    not-beyond b =
        by_found (numbered (b.number + 2) entries) refl
        (sym (names-held v t shows b.number b.fits) ∙ own-row b.number b.own) b.beyond
      where
        by_found : (o : Option NameEntry) → numbered (b.number + 2) entries ≡ o
            → option_map (λ (f : NameEntry). f.name) o ≡ Some value → (2 ^ 64 ≤ b.number + 2) ⊎ (255 < length value) → ⊥
        by_found None is says beyond = differs says
          where
            differs : None ≡ Some value → ⊥
            differs e = cc
        by_found (Some f) is says (inl high) =
            let a = find-all (λ (e : NameEntry). e.cookie == b.number + 2) (λ (e : NameEntry). e.cookie < t.epoch + 2) entries f
            (rise-below 3 (t.epoch + 2) entries rises) is in
            too-high t.epoch f.cookie b.number a.0 (numbered-cookie (b.number + 2) entries f is) sound.bounds.epoch high
          where
            too-high : (epoch cookie number : ℕ) → cookie < epoch + 2 → cookie ≡ number + 2 → epoch ≤ last_epoch
                → 2 ^ 64 ≤ number + 2 → ⊥
            too-high epoch cookie number below is most high = omega (arith, below, is, most, high)
        by_found (Some f) is says (inr long) =
            let a = find-all (λ (e : NameEntry). e.cookie == b.number + 2) (λ (e : NameEntry). IsEntryName 2 e.name) entries f
            sound.bounds.snapshots.entries.own is in
            let short : length f.name ≤ 255 = fault-short f.name a.0.good in
            let same : f.name ≡ value = one f.name says in
            absurd (omega (arith, short, long, ap length same))
          where
            one : (x : List ℕ) → Some x ≡ Some value → x ≡ value
            one x e = cc

-- ---- of the trees that may lie below

abbrev pub entries_of : Tree → List NameEntry
entries_of t = map snapshot_entry t.snapshots

module _ {S W : Type 0} (told : PairsTold S W) (old new : S) (number : ℕ) (fits : number < 2 ^ 64) where
  pub none-reads : Tells told old new (Follows Live (key_of (Snapshot number)) None)
      → Reads told old new IsSound (λ t. next_entry (number + 2) (map snapshot_entry t.snapshots) ≡ None)
  none-reads tells =
      reads-of told old new (Follows Live (key_of (Snapshot number)) None) IsSound
      (λ t. next_entry (number + 2) (map snapshot_entry t.snapshots) ≡ None) tells
      (λ v t shows follows sound. none-follows v t number fits shows sound follows)

  pub next-reads : (key value : List ℕ) (found : Option NameEntry)
      → Tells told old new (IsNext Live (key_of (Snapshot number)) key value)
      → SaysNext key value found
      → Reads told old new IsSound (λ t. next_entry (number + 2) (map snapshot_entry t.snapshots) ≡ found)
  next-reads key value None tells says =
      reads-of told old new (IsNext Live (key_of (Snapshot number)) key value) IsSound
      (λ t. next_entry (number + 2) (map snapshot_entry t.snapshots) ≡ None) tells
      (λ v t shows is-next sound. other-follows v t number fits shows sound key value is-next says)
  next-reads key value (Some e) tells says =
      reads-of told old new (IsNext Live (key_of (Snapshot number)) key value) IsSound
      (λ t. next_entry (number + 2) (map snapshot_entry t.snapshots) ≡ Some e) tells
      (λ v t shows is-next sound. entry-follows v t number fits shows sound key value is-next e says.0 says.1 says.2)

  pub next-up : (key value : List ℕ) (fault : PairFault) → Tells told old new (IsNext Live (key_of (Snapshot number)) key value)
      → NextFault key value fault → GivesUpOn told old new IsSound fault
  next-up key value Odd tells beyond =
      up-odd told old new (λ v. v) (IsNext Live (key_of (Snapshot number)) key value) IsSound
      (does-tell told old new (IsNext Live (key_of (Snapshot number)) key value) tells)
      (λ v t shows is-next sound. not-beyond v t number fits shows sound key value is-next beyond)
  next-up key value HeightFull tells beyond = beyond
  next-up key value (Page fault) tells beyond = inl beyond

-- ---- what a key says

own-parts : (p : Parts) (n : ℕ) → number_of p ≡ Some n → p ≡ Snapshot n
own-parts First n is = absurd (cc)
own-parts (Lane lane) n is = absurd (cc)
own-parts (Snapshot number) n is = let same : number ≡ n = cc in ap (λ (k : ℕ). Snapshot k) same
own-parts (Inode id) n is = absurd (cc)
own-parts (Name directory name) n is = absurd (cc)
own-parts (Cookie directory cookie) n is = absurd (cc)
own-parts (Extent file index) n is = absurd (cc)
own-parts (Stale file) n is = absurd (cc)
own-parts Times n is = absurd (cc)

-- of a key of bytes the number tells all
pub own-key : (key : List ℕ) (p : Parts) (r : Option ℕ) → AreBytes key → parts_of key ≡ Some p → r ≡ number_of p
    → IfSome r (λ n. key ≡ key_of (Snapshot n))
own-key key p None are says is = tt
own-key key p (Some n) are says is = sym (said-found key p are says) ∙ ap key_of (own-parts p n (sym is))

pub own-fits : (key : List ℕ) (p : Parts) (r : Option ℕ) → AreBytes key → parts_of key ≡ Some p → r ≡ number_of p
    → IfSome r (λ n. n < 2 ^ 64)
own-fits key p None are says is = tt
own-fits key p (Some n) are says is =
    let bounds : HasBounds (Snapshot n) = subst HasBounds (own-parts p n (sym is)) (said-bounds key p are says) in bounds
