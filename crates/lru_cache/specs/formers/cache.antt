pub mod LruCache
