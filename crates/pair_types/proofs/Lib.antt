pub mod MemPagesLemmas
