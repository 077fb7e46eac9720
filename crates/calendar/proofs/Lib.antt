pub mod BandTable
