-- A directory that has a name more, or one less.
use Rattle.std.proofs.Common.{◌≡◌, ◌≢◌, ℕ, ◌+◌, ◌<◌, ◌≤◌, ◌^◌, Bool, true, false, List, [], ◌∷◌, ◌++◌, Option, Some, None}
use Rattle.std.proofs.Common.{refl, sym, ◌∙◌, ap, subst, length}
use Rattle.std.specs.Prelude.{⊤, All, option_map}
use Rattle.std.specs.Str.{bytes_eq}
use Rattle.pairs.specs.declared.at.At.TheVariants.{Live}
use Rattle.pairs.specs.Versions.{Versions, HasLives, with_put, with_del}
use Rattle.pairs.proofs.VersionsLaws.{is-same, same-is}
use Rattle.fs_rules.specs.declared.name_entry.NameEntry.{NameEntry}
use Rattle.fs_rules.specs.Edits.{with_node, edit_node}
use Rattle.fs_rules.specs.Limits.{longest_name}
use Rattle.fs_rules.specs.Names.{named}
use Rattle.fs_rules.specs.Places.{names_of}
use Rattle.fs_rules.specs.Tree.{Tree, Node}
use Rattle.fs_keys.specs.declared.key_parts.KeyParts.TheVariants.{First, Inode, Name, Cookie, Stale}
use Rattle.fs_keys.specs.declared.inode.Inode.{Inode as InodeRow}
use Rattle.fs_keys.specs.Inodes.{inode_of, value_of}
use Rattle.fs_keys.specs.Keys.{Parts, HasBounds, key_of}
use Rattle.fs_keys.specs.Values.{name_in, cookie_in}
use Rattle.fs_shows.specs.Extents.{row}
use Rattle.fs_shows.specs.Nodes.{Holds, IsInodeOf, marks_of, bytes_of, name_row, cookie_row, numbered}
use Rattle.fs_shows.specs.Shows.{Shows}
use Rattle.fs_shows.proofs.Apart.{Differ, short-name, keys-apart, each-number, IsApart}
use Rattle.fs_shows.proofs.Rewriting.{Rewrites, rewrites-none, row-put, row-put-other, row-del, row-del-other, lives-put-other}
use Rattle.fs_shows.proofs.Rewriting.{lives-del-other, keeps-put, keeps-del}
use Rattle.fs_shows.proofs.NodeEdits.{NamesHere, rewrites-own-put, rewrites-own-del}
use Rattle.fs_shows.proofs.InodeEdits.{node-held, node-saved, inode-first, inode-apart-name, inode-apart-cookie}
use Rattle.fs_shows.proofs.InodeEdits.{inode-apart-stale}
use Rattle.fs_shows.proofs.NameLists.{entry_of, named-added, named-beside, numbered-added, numbered-beside, without, IsAlone}
use Rattle.fs_shows.proofs.NameLists.{named-dropped, named-left, numbered-dropped, numbered-left}

-- what holds at one name, and at all others, holds at each
each-name : (P : List ℕ → Type 0) (name : List ℕ) → P name → ((q : List ℕ) → q ≢ name → P q) → (q : List ℕ) → P q
each-name P name here there q = by_test (bytes_eq q name) refl
  where
    by_test : (u : Bool) → bytes_eq q name ≡ u → P q
    by_test true is = subst P (sym (same-is q name is)) here
    by_test false is = there q (λ same. differs (subst (λ (x : List ℕ). bytes_eq x name ≡ false) same is))
      where
        differs : bytes_eq name name ≡ false → ⊥
        differs e = let t : bytes_eq name name ≡ true = is-same name in cc

pub name-first : (id : ℕ) (name : List ℕ) → Differ First (Name id name)
name-first id name is = cc

pub cookie-first : (id cookie : ℕ) → Differ First (Cookie id cookie)
cookie-first id cookie is = cc

name-apart : (id : ℕ) (name q : List ℕ) → q ≢ name → Differ (Name id q) (Name id name)
name-apart id name q other is = other (cc)

cookie-apart : (id cookie k : ℕ) → k ≢ cookie → Differ (Cookie id k) (Cookie id cookie)
cookie-apart id cookie k other is = other (cc)

module _ (v : Versions) (t : Tree) (id : ℕ) (n : Node) (fits : id < 2 ^ 64) (shows : Shows v t)
    (there : t.nodes id ≡ Some n) where
  -- what the names' rows said before
  name-was : (q : List ℕ) → length q ≤ longest_name → Holds name_in (row v Live (Name id q))
      (option_map name_row (named q n.names))
  name-was q short =
      subst (λ (o : Option Node). Holds name_in (row v Live (Name id q)) (option_map name_row (named q (names_of o)))) there
      (shows.live.names id q fits short)

  cookie-was : (k : ℕ) → k < 2 ^ 64 → Holds cookie_in (row v Live (Cookie id k)) (option_map cookie_row (numbered k n.names))
  cookie-was k fits' =
      subst (λ (o : Option Node). Holds cookie_in (row v Live (Cookie id k))
      (option_map cookie_row (numbered k (names_of o)))) there
      (shows.live.cookies id k fits fits')

  module _ (z : Versions) (name : List ℕ) (cookie : ℕ)
      (by_name : (q : List ℕ) → length q ≤ longest_name → q ≢ name → row z Live (Name id q) ≡ row v Live (Name id q))
      (by_cookie : (k : ℕ) → k < 2 ^ 64 → k ≢ cookie → row z Live (Cookie id k) ≡ row v Live (Cookie id k)) where
    -- the rows of the name and of its cookie say what these names do there, and these names are else what they were
    pub names-changed : (names : List NameEntry)
        → (length name ≤ longest_name → Holds name_in (row z Live (Name id name)) (option_map name_row (named name names)))
        → ((q : List ℕ) → q ≢ name → named q names ≡ named q n.names)
        → (cookie < 2 ^ 64 → Holds cookie_in (row z Live (Cookie id cookie)) (option_map cookie_row (numbered cookie names)))
        → ((k : ℕ) → k ≢ cookie → numbered k names ≡ numbered k n.names) → NamesHere z id names
    names-changed names name_here names_there cookie_here cookies_there = record {
      by_name = λ q short. each-name NameAt name name_here other-name q short;
      by_cookie = λ k fits'. each-number CookieAt cookie cookie_here other-cookie k fits';
    }
      where
        NameAt : List ℕ → Type 0
        NameAt q = length q ≤ longest_name → Holds name_in (row z Live (Name id q)) (option_map name_row (named q names))

        CookieAt : ℕ → Type 0
        CookieAt k = k < 2 ^ 64 → Holds cookie_in (row z Live (Cookie id k)) (option_map cookie_row (numbered k names))

        other-name : (q : List ℕ) → q ≢ name → NameAt q
        other-name q other short =
            subst (λ (x : Option (List ℕ)). Holds name_in x (option_map name_row (named q names))) (sym (by_name q short other))
            (subst (λ (o : Option NameEntry). Holds name_in (row v Live (Name id q)) (option_map name_row o))
            (sym (names_there q other))
            (name-was q short))

        other-cookie : (k : ℕ) → k ≢ cookie → CookieAt k
        other-cookie k other fits' =
            subst (λ (x : Option (List ℕ)). Holds cookie_in x (option_map cookie_row (numbered k names)))
            (sym (by_cookie k fits' other))
            (subst (λ (o : Option NameEntry). Holds cookie_in (row v Live (Cookie id k)) (option_map cookie_row o))
            (sym (cookies_there k other))
            (cookie-was k fits'))

-- ---- a name more

-- both rows of an entry are put
abbrev pub with_entry : ℕ → List ℕ → ℕ → List ℕ → List ℕ → Versions → Versions
with_entry id name cookie by_name by_cookie v = with_put (key_of (Cookie id cookie)) by_cookie
    (with_put (key_of (Name id name)) by_name v)

pub keeps-entry : (id : ℕ) (name : List ℕ) (cookie : ℕ) (by_name by_cookie : List ℕ) → id < 2 ^ 64 → length name ≤ longest_name
    → cookie < 2 ^ 64
    → (v : Versions) → HasLives v → HasLives (with_entry id name cookie by_name by_cookie v)
keeps-entry id name cookie by_name by_cookie fits short fits' v lives =
    keeps-put (Cookie id cookie) by_cookie (with_put (key_of (Name id name)) by_name v) (fits, fits') (cookie-first id cookie)
    (keeps-put (Name id name) by_name v (fits, short-name name short) (name-first id name) lives)

pub name-added : (v : Versions) (t : Tree) (id : ℕ) (i j : InodeRow) (n m : Node) (name : List ℕ) (cookie fileid : ℕ)
    (by_name by_cookie : List ℕ)
    → id < 2 ^ 64 → length name ≤ longest_name → cookie < 2 ^ 64 → Shows v t → t.nodes id ≡ Some n
    → named name n.names ≡ None → numbered cookie n.names ≡ None
    → name_in by_name ≡ Some (name_row (entry_of cookie name fileid)) → cookie_in by_cookie ≡ Some
    (cookie_row (entry_of cookie name fileid))
    → Holds inode_of (row v Live (Inode id)) (Some i) → marks_of j.head ≡ marks_of i.head → IsInodeOf j m
    → bytes_of m ≡ bytes_of n
    → m.names ≡ n.names ++ entry_of cookie name fileid ∷ [] → inode_of (value_of j) ≡ Some j
    → Shows (with_put (key_of (Inode id)) (value_of j) (with_entry id name cookie by_name by_cookie v))
    (record t { nodes = with_node id (Some m) t.nodes })
name-added v t id i j n m name cookie fileid by_name by_cookie fits short fits' shows there free fresh says_name says_cookie held
    marks is bytes names again =
    node-saved v y t id i j n m fits shows there r stale held marks is bytes again
    (subst (NamesHere z id) (sym names)
    (names-changed v t id n fits shows there z name cookie other-names other-cookies (n.names ++ entry_of cookie name fileid ∷ [])
    (λ short'. own-name) (λ q other. named-beside name q cookie fileid n.names other)
    (λ fits''. own-cookie) (λ k other. numbered-beside name cookie k fileid n.names other)))
  where
    x : Versions
    x = with_put (key_of (Name id name)) by_name v

    y : Versions
    y = with_put (key_of (Cookie id cookie)) by_cookie x

    z : Versions
    z = with_put (key_of (Inode id)) (value_of j) y

    bounded : HasBounds (Name id name)
    bounded = (fits, short-name name short)

    x-lives : HasLives x
    x-lives = keeps-put (Name id name) by_name v bounded (name-first id name) shows.lives

    r : Rewrites v y (IsApart id)
    r =
        rewrites-own-put id (Cookie id cookie) by_cookie v x (fits, fits') refl
        (rewrites-own-put id (Name id name) by_name v v bounded refl (rewrites-none v (IsApart id) shows.lives))

    stale : y.lives (key_of (Stale id)) ≡ v.lives (key_of (Stale id))
    stale =
        lives-put-other (key_of (Cookie id cookie)) by_cookie (key_of (Stale id)) x
        (keys-apart (Cookie id cookie) (Stale id) (fits, fits') fits (λ is. cc))
        ∙ lives-put-other (key_of (Name id name)) by_name (key_of (Stale id)) v
        (keys-apart (Name id name) (Stale id) bounded fits (λ is. cc))

    to-name : (q : List ℕ) → length q ≤ longest_name → row z Live (Name id q) ≡ row x Live (Name id q)
    to-name q short' =
        row-put-other (Inode id) (Name id q) (value_of j) y Live fits (fits, short-name q short') (inode-apart-name id id q)
        ∙ row-put-other (Cookie id cookie) (Name id q) by_cookie x Live (fits, fits') (fits, short-name q short') (λ is. cc)

    other-names : (q : List ℕ) → length q ≤ longest_name → q ≢ name → row z Live (Name id q) ≡ row v Live (Name id q)
    other-names q short' other =
        to-name q short' ∙ row-put-other (Name id name) (Name id q) by_name v Live bounded (fits, short-name q short')
        (name-apart id name q other)

    own-name : Holds name_in (row z Live (Name id name))
        (option_map name_row (named name (n.names ++ entry_of cookie name fileid ∷ [])))
    own-name =
        subst (λ (s : Option (List ℕ)). Holds name_in s
        (option_map name_row (named name (n.names ++ entry_of cookie name fileid ∷ []))))
        (sym (to-name name short ∙ row-put (Name id name) by_name v bounded (name-first id name) shows.lives))
        (subst (λ (o : Option NameEntry). Holds name_in (Some by_name) (option_map name_row o))
        (sym (named-added name cookie fileid n.names free)) says_name)

    to-cookie : (k : ℕ) → k < 2 ^ 64 → row z Live (Cookie id k) ≡ row y Live (Cookie id k)
    to-cookie k less = row-put-other (Inode id) (Cookie id k) (value_of j) y Live fits (fits, less) (inode-apart-cookie id id k)

    other-cookies : (k : ℕ) → k < 2 ^ 64 → k ≢ cookie → row z Live (Cookie id k) ≡ row v Live (Cookie id k)
    other-cookies k less other =
        to-cookie k less
        ∙ row-put-other (Cookie id cookie) (Cookie id k) by_cookie x Live (fits, fits') (fits, less)
        (cookie-apart id cookie k other)
        ∙ row-put-other (Name id name) (Cookie id k) by_name v Live bounded (fits, less) (λ is. cc)

    own-cookie : Holds cookie_in (row z Live (Cookie id cookie))
        (option_map cookie_row (numbered cookie (n.names ++ entry_of cookie name fileid ∷ [])))
    own-cookie =
        subst (λ (s : Option (List ℕ)). Holds cookie_in s
        (option_map cookie_row (numbered cookie (n.names ++ entry_of cookie name fileid ∷ []))))
        (sym (to-cookie cookie fits' ∙ row-put (Cookie id cookie) by_cookie x (fits, fits') (cookie-first id cookie) x-lives))
        (subst (λ (o : Option NameEntry). Holds cookie_in (Some by_cookie) (option_map cookie_row o))
        (sym (numbered-added name cookie fileid n.names fresh)) says_cookie)

-- ---- a name less

-- both rows of an entry are gone
abbrev pub without_entry : ℕ → List ℕ → ℕ → Versions → Versions
without_entry id name cookie v = with_del (key_of (Cookie id cookie)) (with_del (key_of (Name id name)) v)

pub keeps-no-entry : (id : ℕ) (name : List ℕ) (cookie : ℕ) → id < 2 ^ 64 → length name ≤ longest_name → cookie < 2 ^ 64
    → (v : Versions) → HasLives v → HasLives (without_entry id name cookie v)
keeps-no-entry id name cookie fits short fits' v lives =
    keeps-del (Cookie id cookie) (with_del (key_of (Name id name)) v) (fits, fits') (cookie-first id cookie)
    (keeps-del (Name id name) v (fits, short-name name short) (name-first id name) lives)

pub name-dropped : (v : Versions) (t : Tree) (id : ℕ) (i j : InodeRow) (n m : Node) (name : List ℕ) (cookie : ℕ)
    → id < 2 ^ 64 → length name ≤ longest_name → cookie < 2 ^ 64 → Shows v t → t.nodes id ≡ Some n → All
    (IsAlone name cookie) n.names
    → Holds inode_of (row v Live (Inode id)) (Some i) → marks_of j.head ≡ marks_of i.head → IsInodeOf j m
    → bytes_of m ≡ bytes_of n
    → m.names ≡ without name n.names → inode_of (value_of j) ≡ Some j
    → Shows (with_put (key_of (Inode id)) (value_of j) (without_entry id name cookie v))
    (record t { nodes = with_node id (Some m) t.nodes })
name-dropped v t id i j n m name cookie fits short fits' shows there alone held marks is bytes names again =
    node-saved v y t id i j n m fits shows there r stale held marks is bytes again
    (subst (NamesHere z id) (sym names)
    (names-changed v t id n fits shows there z name cookie other-names other-cookies (without name n.names)
    (λ short'. own-name) (λ q other. named-left name q n.names other)
    (λ fits''. own-cookie) (λ k other. numbered-left name cookie k n.names alone other)))
  where
    x : Versions
    x = with_del (key_of (Name id name)) v

    y : Versions
    y = with_del (key_of (Cookie id cookie)) x

    z : Versions
    z = with_put (key_of (Inode id)) (value_of j) y

    bounded : HasBounds (Name id name)
    bounded = (fits, short-name name short)

    x-lives : HasLives x
    x-lives = keeps-del (Name id name) v bounded (name-first id name) shows.lives

    r : Rewrites v y (IsApart id)
    r =
        rewrites-own-del id (Cookie id cookie) v x (fits, fits') refl
        (rewrites-own-del id (Name id name) v v bounded refl (rewrites-none v (IsApart id) shows.lives))

    stale : y.lives (key_of (Stale id)) ≡ v.lives (key_of (Stale id))
    stale =
        lives-del-other (key_of (Cookie id cookie)) (key_of (Stale id)) x
        (keys-apart (Cookie id cookie) (Stale id) (fits, fits') fits (λ is. cc))
        ∙ lives-del-other (key_of (Name id name)) (key_of (Stale id)) v
        (keys-apart (Name id name) (Stale id) bounded fits (λ is. cc))

    to-name : (q : List ℕ) → length q ≤ longest_name → row z Live (Name id q) ≡ row x Live (Name id q)
    to-name q short' =
        row-put-other (Inode id) (Name id q) (value_of j) y Live fits (fits, short-name q short') (inode-apart-name id id q)
        ∙ row-del-other (Cookie id cookie) (Name id q) x Live (fits, fits') (fits, short-name q short') (λ is. cc)

    other-names : (q : List ℕ) → length q ≤ longest_name → q ≢ name → row z Live (Name id q) ≡ row v Live (Name id q)
    other-names q short' other =
        to-name q short' ∙ row-del-other (Name id name) (Name id q) v Live bounded (fits, short-name q short')
        (name-apart id name q other)

    own-name : Holds name_in (row z Live (Name id name)) (option_map name_row (named name (without name n.names)))
    own-name =
        subst (λ (s : Option (List ℕ)). Holds name_in s (option_map name_row (named name (without name n.names))))
        (sym (to-name name short ∙ row-del (Name id name) v shows.lives))
        (subst (λ (o : Option NameEntry). Holds name_in None (option_map name_row o)) (sym (named-dropped name n.names)) tt)

    to-cookie : (k : ℕ) → k < 2 ^ 64 → row z Live (Cookie id k) ≡ row y Live (Cookie id k)
    to-cookie k less = row-put-other (Inode id) (Cookie id k) (value_of j) y Live fits (fits, less) (inode-apart-cookie id id k)

    other-cookies : (k : ℕ) → k < 2 ^ 64 → k ≢ cookie → row z Live (Cookie id k) ≡ row v Live (Cookie id k)
    other-cookies k less other =
        to-cookie k less
        ∙ row-del-other (Cookie id cookie) (Cookie id k) x Live (fits, fits') (fits, less) (cookie-apart id cookie k other)
        ∙ row-del-other (Name id name) (Cookie id k) v Live bounded (fits, less) (λ is. cc)

    own-cookie : Holds cookie_in (row z Live (Cookie id cookie)) (option_map cookie_row (numbered cookie (without name n.names)))
    own-cookie =
        subst (λ (s : Option (List ℕ)). Holds cookie_in s (option_map cookie_row (numbered cookie (without name n.names))))
        (sym (to-cookie cookie fits' ∙ row-del (Cookie id cookie) x x-lives))
        (subst (λ (o : Option NameEntry). Holds cookie_in None (option_map cookie_row o))
        (sym (numbered-dropped name cookie n.names alone)) tt)
