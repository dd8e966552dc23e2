-- The service's limits (RFC 1813, section 3.3.19 and 3.3.20, tells some of them to clients).
use Rattle.std.specs.Prelude.{ℕ, ◌^◌, ◌-◌}

-- the most bytes of one READ or WRITE
unfoldable pub most_transfer : ℕ
most_transfer = 32768

-- the most bytes of the result of a READDIR or READDIRPLUS
unfoldable pub most_listing : ℕ
most_listing = 32768

-- what FSINFO tells of READ and WRITE (rtmax, rtpref, wtmax, wtpref), and of READDIR (dtpref)
unfoldable pub told_transfer : ℕ
told_transfer = 32768

unfoldable pub told_listing : ℕ
told_listing = 32768

-- the greatest size of a file in bytes (maxfilesize)
unfoldable pub most_size : ℕ
most_size = 2 ^ 40

-- the longest name, and the longest path of a symbolic link, in bytes
unfoldable pub longest_name : ℕ
longest_name = 255

unfoldable pub longest_target : ℕ
longest_target = 1023

-- the most links: names of a file; of a directory its subdirectories and two (linkmax)
unfoldable pub most_links : ℕ
most_links = 32000

-- the deepest directory into which a directory is moved, where the root has level 0
unfoldable pub deepest : ℕ
deepest = 1024

unfoldable pub most_snapshots : ℕ
most_snapshots = 1024

-- the epoch at which no snapshot is taken any more
unfoldable pub last_epoch : ℕ
last_epoch = 2 ^ 32 - 1

-- what file numbers and cookies stay below, and what the number of cuts of a file stays below
unfoldable pub most_numbers : ℕ
most_numbers = 2 ^ 62
